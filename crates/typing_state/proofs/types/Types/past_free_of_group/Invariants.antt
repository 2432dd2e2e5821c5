use Rattle.std.proofs.Common.{◌≡◌, ◌≤◌, ◌<◌, ℕ, None, get_or, map, option_map, true}
use Rattle.cov_expr.specs.View.{term}
use Rattle.typing_state.specs.Groups.{is_free}
use Rattle.typing_state.proofs.types.Types.past_free_of_group.Given as goal

abbrev pub invariant-loop-k : goal.invariant-loop-k
invariant-loop-k l = (k : ℕ) → l.z ≤ k → k < l.k → is_free l.x (get_or (map (option_map term) l.self) k None) ≡ true
