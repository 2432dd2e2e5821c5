use Rattle.std.proofs.Common.{refl}
use Rattle.annotate.proofs.GoingLaws.{four_go}
use Rattle.annotate.proofs.uses.Uses.keep_store.Goals as goal

pub returns : goal.returns
returns c =
    four_go c.keep_retypes.result _ _ _ _ _ _ _ _ _ _ _ c.in_ok-variable.ensures c.in_ok-expr.ensures c.in_ok-option.ensures c.keep_retypes.ensures
    refl
