use Rattle.std.proofs.Common.{◌≡◌, ◌++◌, drop, map}
use Rattle.cov_ast.specs.View as view
use Rattle.entail_origins.specs.declared.kinds.Question.TheVariants as q
use Rattle.entail_origins.proofs.assignments.add_assignment.Given as goal

-- what was added, and what is asked of the rest, is all of it
abbrev pub invariant-loop-retype : goal.invariant-loop-retype
invariant-loop-retype l =
    l.made ++ map (λ r. q.Retyped r.0) (map view.retype (drop l.retype-index l.retypes)) ≡ l.initial.made ++ map (λ r. q.Retyped r.0) (map view.retype l.retypes)
