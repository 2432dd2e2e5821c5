use Rattle.std.proofs.Common.{◌≡◌, ◌==◌, drop, map}
use Rattle.std.specs.List.{list_any}
use Rattle.cov_ast.specs.View as view
use Rattle.level_text.proofs.stands.in_types.Given as goal

abbrev pub invariant-loop-typed : goal.invariant-loop-typed
invariant-loop-typed l = list_any (λ t. t.0 == l.m) (map view.typed (drop l.typed-index l.types)) ≡ list_any (λ t. t.0 == l.m) (map view.typed l.types)
