use Rattle.std.proofs.Common.{◌∙◌, rules}
use Rattle.cov_text.specs.Limits as spec
use Rattle.cov_read.specs.StateViews as views
use Rattle.cov_parse.proofs.LimitLaws.{found_step}
use Rattle.cov_parse.proofs.limits.in_proofs.Goals as goal

pub loop-proof-preserved : goal.loop-proof-preserved
loop-proof-preserved c =
    found_step spec.in_proof views.proof c.args.proofs.now c.loop-proof.proof-index c.proof-item.result _ c.loop-proof.found c.sooner-found.result c.loop-proof-test.true c.proof-item.is (search rules)
    ∙ c.loop-proof.invariant
