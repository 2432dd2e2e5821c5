use Rattle.std.proofs.Common.{◌≡◌, map, drop}
use Rattle.std.specs.List.{list_any}
use Rattle.entail_range.specs.Range.{lent}
use Rattle.cert_search.specs.Inside.Relevance.{is_bound}
use Rattle.cert_search.proofs.relevance.has_bound.Given as goal

-- none so far
abbrev pub invariant-loop-h : goal.invariant-loop-h
invariant-loop-h l = list_any is_bound (map lent (drop l.h-index l.more)) ≡ list_any is_bound (map lent l.more)
