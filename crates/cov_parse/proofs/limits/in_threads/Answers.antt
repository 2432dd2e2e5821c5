use Rattle.std.proofs.Common.{◌∙◌, rules}
use Rattle.cov_text.specs.Limits as spec
use Rattle.cov_read.specs.DeclViews as views
use Rattle.cov_parse.proofs.LimitLaws.{found_step}
use Rattle.cov_parse.proofs.limits.in_threads.Goals as goal

pub loop-thread-preserved : goal.loop-thread-preserved
loop-thread-preserved c =
    found_step spec.in_thread views.thread c.args.threads.now c.loop-thread.thread-index c.thread-item.result _ c.loop-thread.found c.sooner-found.result c.loop-thread-test.true c.thread-item.is (search rules)
    ∙ c.loop-thread.invariant
