use Rattle.std.proofs.Common.{◌≡◌, map, drop}
use Rattle.entail_search.specs.Chains as spec
use Rattle.entail_search.specs.View.{fact}
use Rattle.entail_search.proofs.chains.continue_each.Given as goal

-- those so far, and then those of the rest, are all
abbrev pub invariant-loop-f : goal.invariant-loop-f
invariant-loop-f l =
    spec.continued_each l.n (map fact l.links) (map fact (drop l.f-index l.these)) (map fact l.facts)
    ≡ spec.continued_each l.n (map fact l.links) (map fact l.these) (map fact l.fn.facts)
