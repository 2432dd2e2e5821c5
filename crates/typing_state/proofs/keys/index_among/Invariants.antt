use Rattle.std.proofs.Common.{◌≡◌, ◌<◌, ℕ, false, get_or, map}
use Rattle.cov_expr.specs.Trees.{same}
use Rattle.cov_expr.specs.View.{term}
use Rattle.typing_state.proofs.keys.index_among.Given as goal

-- none so far is equal
abbrev pub invariant-loop-index : goal.invariant-loop-index
invariant-loop-index l = (k : ℕ) → k < l.index → same (get_or (map term l.list) k (term l.e)) (term l.e) ≡ false
