use Rattle.std.proofs.Common.{◌≡◌, map, drop}
use Rattle.entail_search.specs.Chains as spec
use Rattle.entail_search.specs.View.{fact}
use Rattle.entail_search.proofs.chains.continue_one.Given as goal

-- those so far, and then those by the rest, are all
abbrev pub invariant-loop-g : goal.invariant-loop-g
invariant-loop-g l =
    spec.continued l.n (fact l.f) (map fact (drop l.g-index l.links)) (map fact l.facts)
    ≡ spec.continued l.n (fact l.f) (map fact l.links) (map fact l.fn.facts)
