use Rattle.std.proofs.Common.{◌≡◌, drop, map}
use Rattle.cov_expr.specs.Trees.{has_term}
use Rattle.cov_expr.specs.View.{term}
use Rattle.entail_losses.specs.Joined.{seen}
use Rattle.entail_losses.proofs.joined_given.is_given_too.Given as goal

-- it is none of those so far
abbrev pub invariant-loop-one : goal.invariant-loop-one
invariant-loop-one l =
    has_term (map (λ g. g.term) (map seen (drop l.one-index l.given))) (term l.e) ≡ has_term (map (λ g. g.term) (map seen l.given)) (term l.e)
