use Rattle.std.proofs.Common.{◌≡◌, drop, map}
use Rattle.cov_ast.specs.View as view
use Rattle.cov_expr.specs.View.{term}
use Rattle.refusal_names.specs.LargeTerms as spec
use Rattle.refusal_names.proofs.large.large_class.Given as goal

-- the first of what is left is the first of all
abbrev pub invariant-loop-y : goal.invariant-loop-y
invariant-loop-y l =
    spec.large_class l.hidden l.x (term l.value) l.y (map view.var (drop l.y l.vars)) ≡ spec.large_class l.hidden l.x (term l.value) 0 (map view.var l.vars)
