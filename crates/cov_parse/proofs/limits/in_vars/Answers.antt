use Rattle.std.proofs.Common.{◌∙◌, rules}
use Rattle.cov_text.specs.Limits as spec
use Rattle.cov_read.specs.DeclViews as views
use Rattle.cov_parse.proofs.LimitLaws.{found_step}
use Rattle.cov_parse.proofs.limits.in_vars.Goals as goal

pub loop-var-preserved : goal.loop-var-preserved
loop-var-preserved c =
    found_step spec.in_var views.var c.args.vars.now c.loop-var.var-index c.var-item.result _ c.loop-var.found c.sooner-found.result c.loop-var-test.true c.var-item.is (search rules)
    ∙ c.loop-var.invariant
