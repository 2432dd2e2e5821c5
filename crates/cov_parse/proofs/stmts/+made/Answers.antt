use Rattle.std.proofs.Common.{◌∙◌, map, ap}
use Rattle.cov_ast.specs.View as ast
use Rattle.cov_read.specs.StmtViews as stmts
use Rattle.cov_text.specs.GivenTrees as spec
use Rattle.cov_parse.proofs.GivenItems.{items_moved}
use Rattle.cov_parse.proofs.BlockLaws.{block_is}
use Rattle.cov_parse.proofs.stmts.+made.Goals as goal

pub stmts_of-returns : goal.stmts_of-returns
stmts_of-returns t c =
    ap ast.block_of (items_moved spec.stmt_of stmts.stmt ast.stmt c.loop-stmt.made c.loop-stmt.rest _ c.in_default.ensures.0 c.loop-stmt.invariant.same)
    ∙ block_is (map stmts.stmt c.args.body)
