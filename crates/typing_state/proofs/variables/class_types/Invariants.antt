use Rattle.std.proofs.Common.{◌≡◌, ◌++◌, Some, drop, map, option_map}
use Rattle.cov_expr.specs.View.{term}
use Rattle.typing_state.proofs.variables.class_types.Given as goal

abbrev pub invariant-loop-class : goal.invariant-loop-class
invariant-loop-class l = map (option_map term) l.made ++ map (λ q. Some (term q.value)) (drop l.class-index l.classes) ≡ map (λ q. Some (term q.value)) l.classes
