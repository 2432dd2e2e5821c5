use Rattle.std.proofs.Common.{◌≡◌, drop, map, not}
use Rattle.std.specs.List.{list_any}
use Rattle.cov_expr.specs.View.{term}
use Rattle.entail_counter.specs.Known.{known}
use Rattle.entail_counter.specs.Searching.{is_other}
use Rattle.entail_counter.proofs.finder.is_open.Given as goal

-- each so far holds
abbrev pub invariant-loop-h : goal.invariant-loop-h
invariant-loop-h l =
    list_any (λ h. not (is_other (known h l.m))) (map term (drop l.h-index l.hyps))
    ≡ list_any (λ h. not (is_other (known h l.m))) (map term l.hyps)
