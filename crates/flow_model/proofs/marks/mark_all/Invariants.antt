use Rattle.std.proofs.Common.{◌≡◌, drop}
use Rattle.cov_ast.specs.Tables.{with_all}
use Rattle.flow_model.proofs.marks.mark_all.Given as goal

abbrev pub invariant-loop-x : goal.invariant-loop-x
invariant-loop-x l = with_all l.marks (drop l.x-index l.numbers) ≡ with_all l.fn.marks l.numbers
