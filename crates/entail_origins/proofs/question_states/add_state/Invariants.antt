use Rattle.std.proofs.Common.{◌≡◌, ◌++◌, drop, map}
use Rattle.cov_ast.specs.View as view
use Rattle.entail_origins.specs.declared.kinds.Question.TheVariants as q
use Rattle.entail_origins.proofs.question_states.add_state.Given as goal

-- what was added, and what is asked of the rest, is all of it
abbrev pub invariant-loop-z : goal.invariant-loop-z
invariant-loop-z l =
    l.made ++ map (λ r. q.TypeOf l.end r.0) (map view.typed (drop l.z-index l.types)) ≡ l.initial.made ++ map (λ r. q.TypeOf l.end r.0) (map view.typed l.types)
