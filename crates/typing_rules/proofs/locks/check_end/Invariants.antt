use Rattle.std.proofs.Common.{◌≡◌, ℕ, ◌<◌, false}
use Rattle.cov_ast.specs.Tables.{has}
use Rattle.typing_rules.proofs.locks.check_end.Given as goal

abbrev pub invariant-loop-l : goal.invariant-loop-l
invariant-loop-l l = (k : ℕ) → k < l.l → has l.modes.held k ≡ false
