use Rattle.std.proofs.Common.{◌≡◌, map, drop}
use Rattle.cov_expr.specs.View.{term}
use Rattle.entail_search.specs.Facts as spec
use Rattle.entail_search.specs.View.{fact}
use Rattle.entail_search.proofs.facts.has_fact.Given as goal

-- none so far
abbrev pub invariant-loop-f : goal.invariant-loop-f
invariant-loop-f l = spec.has_fact (map fact (drop l.f-index l.facts)) (term l.e) ≡ spec.has_fact (map fact l.facts) (term l.e)
