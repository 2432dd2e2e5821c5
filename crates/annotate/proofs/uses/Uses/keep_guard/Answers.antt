use Rattle.std.proofs.Common.{refl}
use Rattle.annotate.proofs.GoingLaws.{two_go}
use Rattle.annotate.proofs.uses.Uses.keep_guard.Goals as goal

pub returns : goal.returns
returns c = two_go c.keep_state.result _ _ _ _ _ _ _ c.in_ok-expr.ensures c.keep_state.ensures refl
