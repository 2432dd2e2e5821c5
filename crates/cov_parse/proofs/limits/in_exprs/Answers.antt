use Rattle.std.proofs.Common.{◌∙◌, rules}
use Rattle.cov_text.specs.Limits as spec
use Rattle.cov_read.specs.CertViews as views
use Rattle.cov_parse.proofs.LimitLaws.{found_step}
use Rattle.cov_parse.proofs.limits.in_exprs.Goals as goal

pub loop-e-preserved : goal.loop-e-preserved
loop-e-preserved c =
    found_step spec.in_expr views.whole c.args.es.now c.loop-e.e-index c.e-item.result _ c.loop-e.found c.sooner-found.result c.loop-e-test.true c.e-item.is (search rules)
    ∙ c.loop-e.invariant
