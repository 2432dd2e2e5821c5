use Rattle.std.proofs.Common.{◌≡◌, drop, map}
use Rattle.std.specs.List.{list_any}
use Rattle.cov_expr.specs.View.{term}
use Rattle.entail_counter.specs.Known.{known}
use Rattle.entail_counter.specs.Searching.{is_zero}
use Rattle.entail_counter.proofs.search.is_denied.Given as goal

-- none so far is 0
abbrev pub invariant-loop-h : goal.invariant-loop-h
invariant-loop-h l =
    list_any (λ h. is_zero (known h l.m)) (map term (drop l.h-index l.hyps)) ≡ list_any (λ h. is_zero (known h l.m)) (map term l.hyps)
