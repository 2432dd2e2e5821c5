use Rattle.cov_ast.specs.View as view
use Rattle.policy_class.specs.Inside.Ids.{var_in, lock_in}
use Rattle.policy_class.specs.Inside.Statements.{resolved_stmt, StmtHasWords}
use Rattle.policy_class.proofs.WalkLaws.{Walked}
use Rattle.policy_class.proofs.programs.+blocks.Given as goal

abbrev pub invariant-resolve_block-loop-i : goal.invariant-resolve_block-loop-i
invariant-resolve_block-loop-i l = record {
  unvisited : goal.unvisited-resolve_block-loop-i l;
  walked : Walked view.stmt (resolved_stmt (var_in l.ids) (lock_in l.ids)) StmtHasWords l.initial.body l.body l.i;
}
