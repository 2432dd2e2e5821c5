use Rattle.std.proofs.Common.{◌≡◌, ◌≤◌, ◌<◌, ℕ, [], false, get_or}
use Rattle.cov_ast.specs.Tables.{has}
use Rattle.typing_state.proofs.groups.Groups.next_with.Given as goal

abbrev pub invariant-loop-group : goal.invariant-loop-group
invariant-loop-group l = (g : ℕ) → l.from ≤ g → g < l.group → has (get_or l.self g []) l.x ≡ false
