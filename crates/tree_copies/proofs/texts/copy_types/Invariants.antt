use Rattle.std.proofs.Common.{◌≡◌, ◌++◌, drop, map}
use Rattle.cov_ast.specs.View as view
use Rattle.tree_copies.proofs.texts.copy_types.Given as goal

abbrev pub invariant-loop-typed : goal.invariant-loop-typed
invariant-loop-typed l = map view.typed l.copies ++ map view.typed (drop l.typed-index l.types) ≡ map view.typed l.types
