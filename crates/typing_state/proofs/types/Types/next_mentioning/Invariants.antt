use Rattle.std.proofs.Common.{◌≡◌, ◌≤◌, ◌<◌, ◌-◌, ℕ, None, get_or, map, option_map, true}
use Rattle.cov_expr.specs.View.{term}
use Rattle.typing_state.specs.Groups.{is_free}
use Rattle.typing_state.proofs.types.Types.next_mentioning.Given as goal

abbrev pub invariant-loop-z : goal.invariant-loop-z
invariant-loop-z l = (l.from ≤ l.start) × ((k : ℕ) → l.from ≤ k → k < l.start → k < 256 → is_free l.x (get_or (map (option_map term) l.self) k None) ≡ true)

abbrev pub decreases-loop-z : goal.decreases-loop-z
decreases-loop-z l = 256 - l.start
