use Rattle.std.proofs.Common.{◌≡◌, map, drop}
use Rattle.entail_range.specs.Range.{lent}
use Rattle.cert_search.specs.Inside.Relevance as spec
use Rattle.cert_search.proofs.relevance.is_opposed.Given as goal

-- none so far
abbrev pub invariant-loop-e : goal.invariant-loop-e
invariant-loop-e l = spec.is_opposed (map lent l.all) (map lent (drop l.e-index l.more)) ≡ spec.is_opposed (map lent l.all) (map lent l.more)
