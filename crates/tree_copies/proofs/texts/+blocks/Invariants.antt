use Rattle.std.proofs.Common.{◌≡◌, ◌++◌, drop, map}
use Rattle.cov_ast.specs.View as view
use Rattle.tree_copies.proofs.texts.+blocks.Given as goal

abbrev pub invariant-copy_block-loop-stmt : goal.invariant-copy_block-loop-stmt
invariant-copy_block-loop-stmt l = map view.stmt l.copies ++ map view.stmt (drop l.stmt-index l.body) ≡ map view.stmt l.body
