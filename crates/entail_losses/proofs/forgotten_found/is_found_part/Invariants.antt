use Rattle.std.proofs.Common.{◌≡◌, drop, map}
use Rattle.cov_expr.specs.Trees.{has_term}
use Rattle.cov_expr.specs.View.{term}
use Rattle.entail_losses.specs.Forgotten.{seen}
use Rattle.entail_losses.proofs.forgotten_found.is_found_part.Given as goal

-- it is none of those so far
abbrev pub invariant-loop-one : goal.invariant-loop-one
invariant-loop-one l =
    has_term (map (λ f. f.part) (map seen (drop l.one-index l.found))) (term l.e) ≡ has_term (map (λ f. f.part) (map seen l.found)) (term l.e)
