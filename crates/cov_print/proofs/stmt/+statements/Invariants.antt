use Rattle.std.proofs.Common.{◌≡◌, ◌++◌, drop}
use Rattle.cov_ast.specs.View as view
use Rattle.cov_print.specs.Spelling as spec
use Rattle.cov_print.proofs.stmt.+statements.Given as goal

-- the lines that are written, and those of what is left, are all of them
abbrev pub invariant-add_block-loop-s : goal.invariant-add_block-loop-s
invariant-add_block-loop-s l =
    l.out ++ spec.block l.names l.margin (view.block (drop l.s-index l.body)) ≡ l.fn.out ++ spec.block l.names l.margin (view.block l.body)
