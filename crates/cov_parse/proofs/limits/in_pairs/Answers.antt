use Rattle.std.proofs.Common.{◌∙◌, rules}
use Rattle.cov_text.specs.Limits as spec
use Rattle.cov_read.specs.StateViews as views
use Rattle.cov_parse.proofs.LimitLaws.{found_step}
use Rattle.cov_parse.proofs.limits.in_pairs.Goals as goal

pub loop-pair-preserved : goal.loop-pair-preserved
loop-pair-preserved c =
    found_step spec.in_pair views.typed c.args.pairs.now c.loop-pair.pair-index c.pair-item.result _ c.loop-pair.found c.sooner-found.result c.loop-pair-test.true c.pair-item.is (search rules)
    ∙ c.loop-pair.invariant
