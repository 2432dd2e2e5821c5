use Rattle.std.proofs.Common.{◌≡◌, ◌++◌, drop}
use Rattle.cov_ast.specs.View as view
use Rattle.explain.specs.Inside.StatementWalks.{block_unreached}
use Rattle.explain.proofs.unreached.+blocks.Given as goal

-- what is found, with the rest, is all of it
abbrev pub invariant-add_block-loop-stmt : goal.invariant-add_block-loop-stmt
invariant-add_block-loop-stmt l =
    l.found ++ block_unreached l.cut_off (view.block (drop l.stmt-index l.body)) ≡ l.fn.found ++ block_unreached l.fn.is_cut_off (view.block l.body)
