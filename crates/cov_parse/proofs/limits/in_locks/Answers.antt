use Rattle.std.proofs.Common.{◌∙◌, rules}
use Rattle.cov_text.specs.Limits as spec
use Rattle.cov_read.specs.DeclViews as views
use Rattle.cov_parse.proofs.LimitLaws.{found_step}
use Rattle.cov_parse.proofs.limits.in_locks.Goals as goal

pub loop-lock-preserved : goal.loop-lock-preserved
loop-lock-preserved c =
    found_step spec.in_lock views.lock c.args.locks.now c.loop-lock.lock-index c.lock-item.result _ c.loop-lock.found c.sooner-found.result c.loop-lock-test.true c.lock-item.is (search rules)
    ∙ c.loop-lock.invariant
