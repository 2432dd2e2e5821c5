use Rattle.std.proofs.Common.{◌≡◌, ◌≤◌, ◌-◌, length, map, take}
use Rattle.cov_expr.specs.View.{term}
use Rattle.typing_state.proofs.predicates.same_beginning.Given as goal

abbrev pub invariant-loop-kept : goal.invariant-loop-kept
invariant-loop-kept l = (l.kept ≤ length l.list) × (l.kept ≤ length l.preds) × (map term (take l.kept l.list) ≡ map term (take l.kept l.preds))

abbrev pub decreases-loop-kept : goal.decreases-loop-kept
decreases-loop-kept l = length l.list - l.kept
