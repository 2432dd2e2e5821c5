-- What the machine keeps, as a state of the definition, and what is true of it.
use Rattle.std.specs.Prelude.{◌≡◌, ℕ, length}
use Rattle.std.specs.Vec.{vec_capacity}
use Rattle.flow_model.specs.FirstDifference.{holders_of}
use Rattle.risc_machine.specs.Machine.{CodeState}
use Rattle.risc_machine.specs.declared.parts.Parts.{Parts}
use Rattle.risc_machine.specs.declared.state.State.{State}

abbrev pub code_state : State → CodeState
code_state s = record {
  memory = s.memory;
  holders = holders_of s.holders;
  outputs = s.said.items;
  registers = s.registers;
  positions = s.positions;
}

abbrev pub room_of : State → ℕ
room_of s = vec_capacity s.said

-- There is a word for each variable, a holder for each lock, and registers and a position for each thread.
pub record Fits (p : Parts) (s : CodeState) : Type 0 where
  pub memory : length s.memory ≡ length p.vars
  pub holders : length s.holders ≡ length p.locks
  pub registers : length s.registers ≡ length p.threads
  pub positions : length s.positions ≡ length p.threads
