use Rattle.std.proofs.Common.{refl}
use Rattle.annotate.proofs.GoingLaws.{four_go}
use Rattle.annotate.proofs.uses.Uses.keep_modes.Goals as goal

pub returns : goal.returns
returns c =
    rw (← c.as_slice.ensures, ← c.as_slice-2.ensures, ← c.as_slice-3.ensures, ← c.as_slice-4.ensures)
    (four_go c.keep_variables-4.result _ _ _ _ _ _ _ _ _ _ _ c.in_ok-keep_variables.ensures c.in_ok-keep_variables-2.ensures c.in_ok-keep_variables-3.ensures
    c.keep_variables-4.ensures refl)
