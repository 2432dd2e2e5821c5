use Rattle.std.proofs.Common.{◌≡◌, drop, map}
use Rattle.cov_expr.specs.View.{term}
use Rattle.refusal_names.specs.OutsideVariables.{first_with_outside}
use Rattle.refusal_names.proofs.outside.first_expr.Given as goal

-- the first of what is left is the first of all
abbrev pub invariant-loop-e : goal.invariant-loop-e
invariant-loop-e l = first_with_outside l.set (map term (drop l.e-index l.exprs)) ≡ first_with_outside l.set (map term l.exprs)
