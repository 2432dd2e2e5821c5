use Rattle.std.proofs.Common.{◌≡◌, ◌≤◌, length, map, not}
use Rattle.std.specs.Prelude.{filter}
use Rattle.cov_expr.specs.Trees.{mentions}
use Rattle.cov_expr.specs.View.{term}
use Rattle.typing_state.proofs.DropLaws.{left_from}
use Rattle.typing_state.proofs.predicates.Predicates.drop_mentioning.Given as goal

abbrev pub invariant-loop-end : goal.invariant-loop-end
invariant-loop-end l =
    (l.end ≤ length l.self) × (left_from (λ r. not (mentions r l.x)) (map term l.self) l.end ≡ filter (λ r. not (mentions r l.x)) (map term l.fn.self))

abbrev pub decreases-loop-end : goal.decreases-loop-end
decreases-loop-end l = l.end
