use Rattle.std.proofs.Common.{◌∙◌, arith}
use Rattle.typing_state.proofs.DropLaws.{cut_end, cut_step}
use Rattle.typing_state.proofs.predicates.Predicates.truncate.Goals as goal

pub loop-end-preserved : goal.loop-end-preserved
loop-end-preserved c =
    let cut = cut_step c.loop-end.self c.remove.new.self c.loop-end.end c.args.len c.loop-end.invariant.0 c.loop-end-test.true c.remove.ensures in
    (cut.0, cut.1 ∙ c.loop-end.invariant.1)

pub returns : goal.returns
returns c = cut_end c.loop-end.self _ c.args.len (omega (arith, c.loop-end.invariant.0)) c.loop-end.invariant.1
