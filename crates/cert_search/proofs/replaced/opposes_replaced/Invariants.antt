use Rattle.std.proofs.Common.{◌≡◌, map, drop}
use Rattle.std.specs.List.{list_any}
use Rattle.cov_expr.specs.View.{term}
use Rattle.entail_range.specs.Range.{lent}
use Rattle.cert_search.specs.Inside.Replaced.{replaced}
use Rattle.cert_search.specs.Inside.Relevance as relevance
use Rattle.cert_search.proofs.replaced.opposes_replaced.Given as goal

-- none so far
abbrev pub invariant-loop-f : goal.invariant-loop-f
invariant-loop-f l =
    list_any (relevance.are_opposite (replaced (term l.h) l.x (term l.e))) (map lent (drop l.f-index l.hyps))
    ≡ list_any (relevance.are_opposite (replaced (term l.h) l.x (term l.e))) (map lent l.hyps)
