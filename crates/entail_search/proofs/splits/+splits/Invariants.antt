use Rattle.std.proofs.Common.{◌≡◌, ◌+◌, ◌*◌, map, drop}
use Rattle.cov_expr.specs.View.{term}
use Rattle.entail_range.specs.Range.{lent}
use Rattle.entail_search.specs.declared.splits.TheConstants.{MOST_TRIED}
use Rattle.entail_search.specs.Deeper as spec
use Rattle.entail_search.proofs.splits.+splits.Given as goal

abbrev pub decreases-by_splits : goal.decreases-by_splits
decreases-by_splits l = 20 * l.depth

abbrev pub decreases-by_disjunctions : goal.decreases-by_disjunctions
decreases-by_disjunctions l = 20 * l.below + 19

abbrev pub decreases-in_parts : goal.decreases-in_parts
decreases-in_parts l = 20 * l.below + 2 * l.left + 1

abbrev pub decreases-in_part : goal.decreases-in_part
decreases-in_part l = 20 * l.below + 2 * l.left + 2

-- nothing so far
abbrev pub invariant-by_disjunctions-loop-i : goal.invariant-by_disjunctions-loop-i
invariant-by_disjunctions-loop-i l =
    spec.by_disjunctions (spec.by_splits l.below) (term l.goal) (map lent l.hyps) l.left (l.i + 1) (map lent (drop l.i l.hyps))
    ≡ spec.by_disjunctions (spec.by_splits l.below) (term l.goal) (map lent l.hyps) MOST_TRIED 1 (map lent l.hyps)
