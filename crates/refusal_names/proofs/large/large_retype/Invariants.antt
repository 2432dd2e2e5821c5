use Rattle.std.proofs.Common.{◌≡◌, drop, map}
use Rattle.cov_ast.specs.View as view
use Rattle.cov_expr.specs.View.{term}
use Rattle.refusal_names.specs.LargeTerms as spec
use Rattle.refusal_names.proofs.large.large_retype.Given as goal

-- the first of what is left is the first of all
abbrev pub invariant-loop-retype : goal.invariant-loop-retype
invariant-loop-retype l =
    spec.large_retype l.x (term l.value) (map view.retype (drop l.retype-index l.retypes)) ≡ spec.large_retype l.x (term l.value) (map view.retype l.retypes)
