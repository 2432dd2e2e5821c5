use Rattle.std.proofs.Common.{◌≡◌, map, drop}
use Rattle.std.specs.List.{list_any}
use Rattle.cov_expr.specs.View.{term}
use Rattle.entail_range.specs.Range.{lent}
use Rattle.cert_search.specs.Inside.Relevance as spec
use Rattle.cert_search.proofs.relevance.opposes.Given as goal

-- none so far
abbrev pub invariant-loop-h : goal.invariant-loop-h
invariant-loop-h l = list_any (spec.are_opposite (term l.e)) (map lent (drop l.h-index l.all)) ≡ list_any (spec.are_opposite (term l.e)) (map lent l.all)
