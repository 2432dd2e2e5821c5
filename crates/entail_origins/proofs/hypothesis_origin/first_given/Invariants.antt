use Rattle.std.proofs.Common.{◌≡◌, drop, map}
use Rattle.cov_expr.specs.View.{term}
use Rattle.entail_origins.specs.GivenViews.{given}
use Rattle.entail_origins.specs.Origins as spec
use Rattle.entail_origins.proofs.hypothesis_origin.first_given.Given as goal

-- none of the predicates so far is the hypothesis
abbrev pub invariant-loop-one : goal.invariant-loop-one
invariant-loop-one l =
    spec.first_given (map given (drop l.one-index l.all)) (term l.hypothesis) ≡ spec.first_given (map given l.all) (term l.hypothesis)
