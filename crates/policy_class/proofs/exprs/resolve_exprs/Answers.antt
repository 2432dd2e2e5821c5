use Rattle.std.proofs.Common.{arith}
use Rattle.cov_expr.specs.View.{term}
use Rattle.cov_expr.specs.Words.{HasWords}
use Rattle.policy_class.specs.Inside.Ids.{var_in, lock_in}
use Rattle.policy_class.specs.Resolved.{resolved_term}
use Rattle.policy_class.proofs.WalkLaws.{walked_none, walked_more, walked_all}
use Rattle.policy_class.proofs.exprs.resolve_exprs.Goals as goal

pub loop-e-init : goal.loop-e-init
loop-e-init c = walked_none term (resolved_term (var_in c.args.ids.now) (lock_in c.args.ids.now)) HasWords c.args.es.now

pub loop-e-preserved : goal.loop-e-preserved
loop-e-preserved c =
    walked_more term (resolved_term (var_in c.args.ids.now) (lock_in c.args.ids.now)) HasWords c.args.es.now c.loop-e.es c.loop-e.e-index
    c.e-item.result _ (omega (arith, c.loop-e.auto.es, c.loop-e-test.true)) c.resolve_expr.ensures.resolved c.resolve_expr.ensures.words c.loop-e.invariant

pub returns-clause-resolved : goal.returns-clause-resolved
returns-clause-resolved c =
    (walked_all term (resolved_term (var_in c.args.ids.now) (lock_in c.args.ids.now)) HasWords c.args.es.now c.loop-e.es c.loop-e.e-index
    (omega (arith, c.loop-e.auto.es, c.loop-e-test.false)) c.loop-e.invariant).0

pub returns-clause-words : goal.returns-clause-words
returns-clause-words c =
    (walked_all term (resolved_term (var_in c.args.ids.now) (lock_in c.args.ids.now)) HasWords c.args.es.now c.loop-e.es c.loop-e.e-index
    (omega (arith, c.loop-e.auto.es, c.loop-e-test.false)) c.loop-e.invariant).1
