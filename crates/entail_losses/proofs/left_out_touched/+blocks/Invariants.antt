use Rattle.std.proofs.Common.{◌≡◌, drop}
use Rattle.cov_ast.specs.Plain.{plain}
use Rattle.cov_ast.specs.View as view
use Rattle.entail_losses.specs.LeftOut.{touched_in, without_all}
use Rattle.entail_losses.proofs.left_out_touched.+blocks.Given as goal

-- what the statements that are left leave is what all leave
abbrev pub invariant-keep_past_all-loop-stmt : goal.invariant-keep_past_all-loop-stmt
invariant-keep_past_all-loop-stmt l =
    without_all l.kept (touched_in (plain (view.program l.p)) l.stores (view.block (drop l.stmt-index l.body)))
    ≡ without_all l.fn.kept (touched_in (plain (view.program l.p)) l.stores (view.block l.body))
