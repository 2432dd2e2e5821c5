-- What contracts see of code that runs.
use Rattle.std.specs.Prelude.{ℕ}
use Rattle.risc_machine.specs.Machine.{CodeState}
use Rattle.risc_machine.specs.declared.parts.Parts.{Parts}

-- code that runs: its parts, the state of the definition, and for how many outputs there is room
pub record RunningCode : Type 0 where
  pub parts : Parts
  pub state : CodeState
  pub room : ℕ
