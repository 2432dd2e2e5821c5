use Rattle.std.proofs.Common.{◌≡◌, map, drop}
use Rattle.cov_expr.specs.View.{term}
use Rattle.entail_range.specs.Range.{lent}
use Rattle.entail_search.specs.Closing as spec
use Rattle.entail_search.specs.View.{fact}
use Rattle.entail_search.proofs.closing.closed.Given as goal

-- nothing so far
abbrev pub invariant-loop-f : goal.invariant-loop-f
invariant-loop-f l =
    spec.by_facts (map lent l.hyps) (term l.goal) (map fact (drop l.f-index l.facts))
    ≡ spec.by_facts (map lent l.hyps) (term l.goal) (map fact l.facts)
