use Rattle.std.proofs.Common.{◌≡◌, drop}
use Rattle.cov_ast.specs.Tables.{with_all}
use Rattle.cov_ast.specs.View as view
use Rattle.explain.specs.Inside.StatementWalks.{block_reads}
use Rattle.explain.proofs.uses.+blocks.Given as goal

-- what is added, with the rest, is all of it
abbrev pub invariant-add_block-loop-stmt : goal.invariant-add_block-loop-stmt
invariant-add_block-loop-stmt l = with_all l.read (block_reads (view.block (drop l.stmt-index l.body))) ≡ with_all l.fn.read (block_reads (view.block l.body))
