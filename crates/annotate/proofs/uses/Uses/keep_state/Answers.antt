use Rattle.std.proofs.Common.{refl}
use Rattle.annotate.proofs.GoingLaws.{two_go}
use Rattle.annotate.proofs.uses.Uses.keep_state.Goals as goal

pub returns : goal.returns
returns c =
    rw (← c.as_slice.ensures, ← c.as_slice-2.ensures) (two_go c.keep_types.result _ _ _ _ _ _ _ c.in_ok-exprs.ensures c.keep_types.ensures refl)
