use Rattle.std.proofs.Common.{◌≡◌, drop, map}
use Rattle.cov_expr.specs.Trees.{has_term}
use Rattle.cov_expr.specs.View.{term}
use Rattle.cov_expr.proofs.parts.has_same.Given as goal

-- it is none of those so far
abbrev pub invariant-loop-one : goal.invariant-loop-one
invariant-loop-one l = has_term (map term (drop l.one-index l.all)) (term l.e) ≡ has_term (map term l.all) (term l.e)
