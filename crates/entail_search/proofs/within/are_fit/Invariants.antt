use Rattle.std.proofs.Common.{◌≡◌, map, drop, false}
use Rattle.std.specs.List.{list_all}
use Rattle.cov_expr.specs.View.{term}
use Rattle.entail_search.specs.Within.{is_fit}
use Rattle.entail_search.proofs.within.are_fit.Given as goal

-- all so far
abbrev pub invariant-loop-e : goal.invariant-loop-e
invariant-loop-e l =
    list_all (is_fit (map term l.hyps) (term l.goal) false) (map term (drop l.e-index l.es))
    ≡ list_all (is_fit (map term l.hyps) (term l.goal) false) (map term l.es)
