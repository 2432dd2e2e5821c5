use Rattle.std.proofs.Common.{◌≡◌, ◌+◌, ◌*◌, drop, map}
use Rattle.cov_expr.specs.View.{term}
use Rattle.entail_counter.specs.Searching as spec
use Rattle.entail_counter.proofs.search.+search.Given as goal

abbrev pub decreases-search : goal.decreases-search
decreases-search l = 4 * l.depth

abbrev pub decreases-onward : goal.decreases-onward
decreases-onward l = 4 * l.below + 3

abbrev pub decreases-each : goal.decreases-each
decreases-each l = 4 * l.below + 2

abbrev pub decreases-tried : goal.decreases-tried
decreases-tried l = 4 * l.below + 1

-- none so far came to something
abbrev pub invariant-each-loop-value : goal.invariant-each-loop-value
invariant-each-loop-value l =
    spec.each (map term l.hyps) (term l.goal) l.more (spec.search (map term l.hyps) (term l.goal) l.more l.below) l.x (drop l.value-index l.values) l.m l.left
    ≡ spec.each (map term l.hyps) (term l.goal) l.more (spec.search (map term l.hyps) (term l.goal) l.more l.below) l.x l.values l.m l.fn.left
