use Rattle.std.proofs.Common.{◌≡◌, drop, map}
use Rattle.cov_expr.specs.Trees.{has_term}
use Rattle.cov_expr.specs.View.{term}
use Rattle.entail_losses.specs.LeftOut.{seen}
use Rattle.entail_losses.proofs.left_out_found.is_found.Given as goal

-- it is none of those so far
abbrev pub invariant-loop-one : goal.invariant-loop-one
invariant-loop-one l =
    has_term (map (λ o. o.term) (map seen (drop l.one-index l.found))) (term l.e) ≡ has_term (map (λ o. o.term) (map seen l.found)) (term l.e)
