use Rattle.std.proofs.Common.{◌≡◌, ℕ, ◌<◌, true}
use Rattle.cov_ast.specs.Tables.{has}
use Rattle.typing_law.specs.ThreadObligations.{agree}
use Rattle.typing_rules.proofs.locks.hold_same.Given as goal

abbrev pub invariant-loop-l : goal.invariant-loop-l
invariant-loop-l l = (k : ℕ) → k < l.l → agree (has l.modes.held k) (has l.other.held k) ≡ true
