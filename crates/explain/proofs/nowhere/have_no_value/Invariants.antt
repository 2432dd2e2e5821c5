use Rattle.std.proofs.Common.{◌≡◌, drop, map}
use Rattle.std.specs.List.{list_any}
use Rattle.cov_expr.specs.View.{term}
use Rattle.explain.specs.HoldsNowhere.{has_no_value}
use Rattle.explain.proofs.nowhere.have_no_value.Given as goal

-- each so far may have a value
abbrev pub invariant-loop-h : goal.invariant-loop-h
invariant-loop-h l =
    list_any (has_no_value (map term l.hyps)) (map term (drop l.h-index l.hyps)) ≡ list_any (has_no_value (map term l.hyps)) (map term l.hyps)
