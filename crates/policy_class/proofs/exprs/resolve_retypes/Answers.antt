use Rattle.std.proofs.Common.{arith}
use Rattle.cov_ast.specs.View as view
use Rattle.cov_expr.specs.Words.{HasWords}
use Rattle.policy_class.specs.Inside.Ids.{var_in, lock_in}
use Rattle.policy_class.specs.Resolved.{resolved_type}
use Rattle.policy_class.proofs.WalkLaws.{walked_none, walked_more, walked_all}
use Rattle.policy_class.proofs.exprs.resolve_retypes.Goals as goal

pub loop-retype-init : goal.loop-retype-init
loop-retype-init c = walked_none view.retype (resolved_type (var_in c.args.ids.now) (lock_in c.args.ids.now)) (λ t. HasWords t.1) c.args.retypes.now

pub loop-retype-preserved : goal.loop-retype-preserved
loop-retype-preserved c =
    walked_more view.retype (resolved_type (var_in c.args.ids.now) (lock_in c.args.ids.now)) (λ t. HasWords t.1) c.args.retypes.now c.loop-retype.retypes c.loop-retype.retype-index
    c.retype-item.result _ (omega (arith, c.loop-retype.auto.retypes, c.loop-retype-test.true)) (λ i. (c.resolved_var-retype.ensures i, c.resolve_expr.ensures.resolved i)) c.resolve_expr.ensures.words c.loop-retype.invariant

pub returns-clause-resolved : goal.returns-clause-resolved
returns-clause-resolved c =
    (walked_all view.retype (resolved_type (var_in c.args.ids.now) (lock_in c.args.ids.now)) (λ t. HasWords t.1) c.args.retypes.now c.loop-retype.retypes c.loop-retype.retype-index
    (omega (arith, c.loop-retype.auto.retypes, c.loop-retype-test.false)) c.loop-retype.invariant).0

pub returns-clause-words : goal.returns-clause-words
returns-clause-words c =
    (walked_all view.retype (resolved_type (var_in c.args.ids.now) (lock_in c.args.ids.now)) (λ t. HasWords t.1) c.args.retypes.now c.loop-retype.retypes c.loop-retype.retype-index
    (omega (arith, c.loop-retype.auto.retypes, c.loop-retype-test.false)) c.loop-retype.invariant).1
