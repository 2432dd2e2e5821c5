use Rattle.std.proofs.Common.{refl}
use Rattle.annotate.proofs.GoingLaws.{two_go}
use Rattle.annotate.proofs.uses.Uses.keep_type.Goals as goal

pub returns : goal.returns
returns c = two_go c.expr.result _ _ _ _ _ _ _ c.in_ok-variable.ensures c.expr.ensures refl
