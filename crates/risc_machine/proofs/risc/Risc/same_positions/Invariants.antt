use Rattle.std.proofs.Common.{ℕ, ◌<◌}
use Rattle.risc_machine.specs.CodeAgreement.{HasSamePosition}
use Rattle.risc_machine.proofs.risc.Risc.same_positions.Given as goal

-- the threads so far stand at the same positions
abbrev pub invariant-loop-t : goal.invariant-loop-t
invariant-loop-t l = (u : ℕ) → u < l.t → HasSamePosition l.self.state l.other.state u
