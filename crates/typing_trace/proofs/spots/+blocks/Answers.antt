use Rattle.std.proofs.Common.{◌+◌, ◌++◌, drop, sym, ap, ◌∙◌, append_assoc}
use Rattle.std.proofs.lemmas.Result.{on_ok_weaker}
use Rattle.cov_ast.specs.View as view
use Rattle.cov_ast.specs.WellFormed.{places, places_within}
use Rattle.typing_rules.proofs.StatementLaws.{block_from, branch_is}
use Rattle.typing_trace.specs.Spots.{spots_in}
use Rattle.typing_trace.proofs.SpotLaws.{spots_append, spots_more}
use Rattle.typing_trace.proofs.spots.+blocks.Goals as goal

pub add_block-loop-stmt-preserved : goal.add_block-loop-stmt-preserved
add_block-loop-stmt-preserved t c =
    let span = c.args.span in
    let th = c.args.t in
    let body = c.args.body.now in
    let s = c.stmt-item.result in
    let next = block_from body c.loop-stmt.stmt-index s c.loop-stmt-test.true c.stmt-item.is in
    spots_more span th c.loop-stmt.spots c.add_place.new.spots c.add_within.new.spots s.at (places_within (view.kind s.kind))
    (places (view.block (drop (c.loop-stmt.stmt-index + 1) body))) c.in_ok-add_place.ensures c.in_ok-add_within.ensures
    ∙ ap (λ b. c.loop-stmt.spots ++ spots_in span th (places b)) (sym next) ∙ c.loop-stmt.invariant

pub add_within-returns-in_ok-add_block-in-If : goal.add_within-returns-in_ok-add_block-in-If
add_within-returns-in_ok-add_block-in-If t c =
    let span = c.args.span in
    let th = c.args.t in
    let old = c.args.spots.now in
    let a = places (view.block c.in-If.a) in
    let b = places (view.block c.in-If.b) in
    let is = ap view.kind c.in-If.is ∙ branch_is c.in-If.field-0 c.in-If.a c.in-If.b c.in-If.field-3 in
    let first = c.in_ok-add_block-in-If.ensures ∙ ap (λ xs. old ++ spots_in span th (places (view.block xs))) c.as_slice.ensures in
    let second = λ (xs : _). ap (λ ys. xs ++ spots_in span th (places (view.block ys))) c.as_slice-in-If.ensures in
    on_ok_weaker c.add_block-in-If.result
    (λ h. h ∙ second c.add_block.new.spots ∙ ap (λ xs. xs ++ spots_in span th b) first ∙ append_assoc old (spots_in span th a) (spots_in span th b)
    ∙ ap (λ xs. old ++ xs) (sym (spots_append span th a b)) ∙ ap (λ k. old ++ spots_in span th (places_within k)) (sym is))
    c.add_block-in-If.ensures
