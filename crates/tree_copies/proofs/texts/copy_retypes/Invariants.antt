use Rattle.std.proofs.Common.{◌≡◌, ◌++◌, drop, map}
use Rattle.cov_ast.specs.View as view
use Rattle.tree_copies.proofs.texts.copy_retypes.Given as goal

abbrev pub invariant-loop-retype : goal.invariant-loop-retype
invariant-loop-retype l = map view.retype l.copies ++ map view.retype (drop l.retype-index l.retypes) ≡ map view.retype l.retypes
