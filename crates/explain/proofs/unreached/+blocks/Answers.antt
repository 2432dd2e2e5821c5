use Rattle.std.proofs.Common.{◌++◌, drop, ◌+◌, ap, ◌∙◌}
use Rattle.cov_ast.specs.View as view
use Rattle.explain.specs.Inside.StatementWalks.{block_unreached, cuts_off, stm_front, stm_unreached}
use Rattle.explain.proofs.UnreachedLaws.{unreached_next, three_added}
use Rattle.explain.proofs.unreached.+blocks.Goals as goal

pub add_block-loop-stmt-preserved : goal.add_block-loop-stmt-preserved
add_block-loop-stmt-preserved t c =
    let ss = c.args.body.now in
    let i = c.loop-stmt.stmt-index in
    let s = c.stmt-item.result in
    let u = c.loop-stmt.cut_off in
    let rest = view.block (drop (i + 1) ss) in
    ap (λ v. c.add_blocks.new.found ++ block_unreached v rest) c.cuts_off-cut_off.ensures
    ∙ three_added c.loop-stmt.found c.add_front.new.found c.add_blocks.new.found (c.args.found.now ++ block_unreached c.args.is_cut_off (view.block ss))
    (stm_front u (view.kind s.kind) s.at) (stm_unreached (view.kind s.kind)) (block_unreached (cuts_off u (view.kind s.kind)) rest) (block_unreached u (view.block (drop i ss)))
    (unreached_next ss i s u c.loop-stmt-test.true c.stmt-item.is) c.in_ok-add_front.ensures c.in_ok-add_blocks.ensures c.loop-stmt.invariant
