use Rattle.std.proofs.Common.{◌≡◌, drop}
use Rattle.cov_ast.specs.Tables.{with_all}
use Rattle.cov_ast.specs.View as view
use Rattle.statement_parts.specs.Parts.{assigned, collected_in}
use Rattle.statement_parts.proofs.assigned.+blocks.Given as goal

-- what is added, with the rest, is all of it
abbrev pub invariant-add_assigned-loop-stmt : goal.invariant-add_assigned-loop-stmt
invariant-add_assigned-loop-stmt l = with_all l.stored (collected_in assigned (view.block (drop l.stmt-index l.body))) ≡ with_all l.fn.stored (collected_in assigned (view.block l.body))
