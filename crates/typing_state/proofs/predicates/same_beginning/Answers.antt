use Rattle.std.proofs.Common.{refl, arith}
use Rattle.typing_state.proofs.KeyedLaws.{begin_more}
use Rattle.typing_state.proofs.predicates.same_beginning.Goals as goal

pub loop-kept-preserved : goal.loop-kept-preserved
loop-kept-preserved c = (
  omega arith,
  omega arith,
  begin_more c.args.list.now c.args.preds.now c.loop-kept.kept c.index-list-kept.result c.index-preds-kept.result c.loop-kept-test.true c.if-kept-preds.true
      c.index-list-kept.is c.index-preds-kept.is (c.if-not-same.ensures.equal.0 refl) c.loop-kept.invariant.2,
)
