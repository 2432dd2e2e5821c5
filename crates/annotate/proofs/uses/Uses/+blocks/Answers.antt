use Rattle.std.proofs.Common.{refl}
use Rattle.cov_ast.specs.View as view
use Rattle.annotate.specs.AnnotatedText.{parts_in_block}
use Rattle.annotate.specs.Inside.Choosing.{chosen_at}
use Rattle.annotate.proofs.KindViews.{kind-If, kind-While}
use Rattle.annotate.proofs.StatementUses.{block_next, branch_goes, loop_goes, parts_end, parts_go, parts_go_on, stmt_parts}
use Rattle.annotate.proofs.uses.Uses.+blocks.Goals as goal

pub add_block-loop-stmt-preserved : goal.add_block-loop-stmt-preserved
add_block-loop-stmt-preserved t c =
    parts_go_on _ _ _ _ _ _ _ c.loop-stmt.invariant
    (block_next (chosen_at c.args.chosen.now) c.args.body.now c.loop-stmt.stmt-index c.stmt-item.result c.loop-stmt-test.true c.stmt-item.is) c.in_ok-add_stmt.ensures

pub add_block-returns : goal.add_block-returns
add_block-returns t c =
    parts_end (λ ss. parts_in_block (chosen_at c.args.chosen.now) (view.block ss)) c.args.body.now c.loop-stmt.stmt-index _ _ refl c.loop-stmt-test.false c.loop-stmt.invariant

pub add_kind-returns-in_ok-add_block-in-If-2 : goal.add_kind-returns-in_ok-add_block-in-If-2
add_kind-returns-in_ok-add_block-in-If-2 t c =
    rw (c.in-If.is, kind-If, ← c.as_slice.ensures, ← c.as_slice-in-If.ensures)
    (branch_goes c.keep_state.result _ _ _ _ _ _ _ _ _ c.in_ok-expr-in-If.ensures c.in_ok-add_block-in-If.ensures c.in_ok-add_block-in-If-2.ensures c.keep_state.ensures)

pub add_kind-returns-in_ok-keep_guard-in-While : goal.add_kind-returns-in_ok-keep_guard-in-While
add_kind-returns-in_ok-keep_guard-in-While t c =
    rw (c.in-While.is, kind-While, ← c.as_slice-in-While.ensures)
    (loop_goes c.add_block-in-While.result _ _ _ _ _ c.in_ok-keep_guard-in-While.ensures c.add_block-in-While.ensures)

pub add_stmt-returns : goal.add_stmt-returns
add_stmt-returns t c =
    rw (stmt_parts (chosen_at c.args.chosen.now) c.args.stmt.now, ← c.at.ensures, ← c.as_slice.ensures)
    (parts_go c.add_proofs.result _ _ _ _ _ c.in_ok-add_kind.ensures c.add_proofs.ensures)
