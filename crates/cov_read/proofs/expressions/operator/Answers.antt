use Rattle.std.proofs.Common.{◌∙◌}
use Rattle.cov_read.proofs.Levels.{skip_level}
use Rattle.cov_read.proofs.expressions.operator.Goals as goal

pub loop-index-preserved : goal.loop-index-preserved
loop-index-preserved c = record {
  same = c.in_default.ensures.sign.1 ∙ c.loop-index.invariant.same;
  skips =
      skip_level c.args.levels.now c.args.from c.loop-index.index c.args.reader.now c.loop-index.reader c.operator_of.new.reader c.loop-index-test.true c.loop-index.invariant.same c.in_default.ensures.sign c.loop-index.invariant.skips;
}
