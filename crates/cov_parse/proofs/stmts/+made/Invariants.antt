use Rattle.std.proofs.Common.{◌≡◌, ◌≤◌, ◌+◌, ◌*◌, ◌++◌, map, reverse, length}
use Rattle.cov_ast.specs.View as ast
use Rattle.cov_grammar.specs.PlacedTrees.{stms}
use Rattle.cov_text.specs.Limits.{places, places_in}
use Rattle.cov_read.specs.StmtViews as stmts
use Rattle.cov_text.specs.GivenTrees as spec
use Rattle.cov_parse.proofs.stmts.+made.Given as goal

-- how many statements there are
abbrev pub decreases-stmts_of : goal.decreases-stmts_of
decreases-stmts_of l = 5 * length (places (stms (map stmts.stmt l.body)))

abbrev pub decreases-blocks_of : goal.decreases-blocks_of
decreases-blocks_of l = 5 * (length (places (stms (map stmts.stmt l.first))) + length (places (stms (map stmts.stmt l.second)))) + 1

abbrev pub decreases-if_of : goal.decreases-if_of
decreases-if_of l = 5 * (length (places (stms (map stmts.stmt l.first))) + length (places (stms (map stmts.stmt l.second)))) + 2

abbrev pub decreases-while_of : goal.decreases-while_of
decreases-while_of l = 5 * length (places (stms (map stmts.stmt l.body))) + 1

abbrev pub decreases-stmt_of : goal.decreases-stmt_of
decreases-stmt_of l = 5 * length (places_in (stmts.stmt l.stmt).1) + 3

abbrev pub decreases-add_stmt : goal.decreases-add_stmt
decreases-add_stmt l = 5 * length (places_in (stmts.stmt l.stmt).1) + 4

abbrev pub invariant-stmts_of-loop-stmt : goal.invariant-stmts_of-loop-stmt
invariant-stmts_of-loop-stmt l = record {
  same : map ast.stmt l.made ++ map spec.stmt_of (map stmts.stmt (reverse l.rest)) ≡ map spec.stmt_of (map stmts.stmt l.fn.body);
  few : length (places (stms (map stmts.stmt (reverse l.rest)))) ≤ length (places (stms (map stmts.stmt l.fn.body)));
}

abbrev pub decreases-stmts_of-loop-stmt : goal.decreases-stmts_of-loop-stmt
decreases-stmts_of-loop-stmt l = length l.rest
