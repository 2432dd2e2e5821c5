use Rattle.std.proofs.Common.{◌+◌, ◌++◌, drop, refl, ap, ◌∙◌}
use Rattle.cov_ast.specs.Plain.{plain}
use Rattle.cov_ast.specs.View as view
use Rattle.statement_parts.specs.Parts.{parts}
use Rattle.entail_losses.specs.LeftOut.{own_touched, touched, touched_in, without_all}
use Rattle.entail_losses.proofs.CollectedLaws.{of_branch, of_next}
use Rattle.entail_losses.proofs.StableLaws.{without_in_turn, without_more}
use Rattle.entail_losses.proofs.left_out_touched.+blocks.Goals as goal

pub keep_past-returns-in-If : goal.keep_past-returns-in-If
keep_past-returns-in-If t c =
    let own = own_touched (plain (view.program c.args.p.now)) c.args.stores in
    let here = own (parts (view.kind c.args.kind.now)) in
    let a = touched_in (plain (view.program c.args.p.now)) c.args.stores (view.block c.in-If.a) in
    let b = touched_in (plain (view.program c.args.p.now)) c.args.stores (view.block c.in-If.b) in
    let first = rw c.as_slice.ensures at c.keep_past_all.ensures in
    let second = rw c.as_slice-in-If.ensures at c.keep_past_all-in-If.ensures in
    without_in_turn c.args.kept.now c.take_own.new.kept c.keep_past_all-in-If.new.kept (touched (plain (view.program c.args.p.now)) c.args.stores (view.kind c.args.kind.now)) here (a ++ b)
    (of_branch own c.args.kind.now c.in-If.field-0 c.in-If.a c.in-If.b c.in-If.field-3 c.in-If.is)
    (c.take_own.ensures ∙ ap (λ ps. without_all c.args.kept.now (own ps)) c.parts_of.ensures)
    (without_in_turn c.take_own.new.kept c.keep_past_all.new.kept c.keep_past_all-in-If.new.kept (a ++ b) a b refl first second)

pub keep_past_all-loop-stmt-preserved : goal.keep_past_all-loop-stmt-preserved
keep_past_all-loop-stmt-preserved t c =
    let p = plain (view.program c.args.p.now) in
    let ss = c.args.body.now in
    let i = c.loop-stmt.stmt-index in
    let s = c.stmt-item.result in
    without_more c.args.kept.now c.loop-stmt.kept c.keep_past.new.kept (touched_in p c.args.stores (view.block ss)) (touched p c.args.stores (view.kind s.kind))
    (touched_in p c.args.stores (view.block (drop (i + 1) ss))) (touched_in p c.args.stores (view.block (drop i ss)))
    c.loop-stmt.invariant (of_next (own_touched p c.args.stores) ss i s c.loop-stmt-test.true c.stmt-item.is) c.keep_past.ensures
