use Rattle.std.proofs.Common.{arith}
use Rattle.cov_ast.specs.View as view
use Rattle.cov_expr.specs.Words.{HasWords}
use Rattle.policy_class.specs.Inside.Ids.{var_in, lock_in}
use Rattle.policy_class.specs.Resolved.{resolved_type}
use Rattle.policy_class.proofs.WalkLaws.{walked_none, walked_more, walked_all}
use Rattle.policy_class.proofs.exprs.resolve_types.Goals as goal

pub loop-typed-init : goal.loop-typed-init
loop-typed-init c = walked_none view.typed (resolved_type (var_in c.args.ids.now) (lock_in c.args.ids.now)) (λ t. HasWords t.1) c.args.types.now

pub loop-typed-preserved : goal.loop-typed-preserved
loop-typed-preserved c =
    walked_more view.typed (resolved_type (var_in c.args.ids.now) (lock_in c.args.ids.now)) (λ t. HasWords t.1) c.args.types.now c.loop-typed.types c.loop-typed.typed-index
    c.typed-item.result _ (omega (arith, c.loop-typed.auto.types, c.loop-typed-test.true)) (λ i. (c.resolved_var-typed.ensures i, c.resolve_expr.ensures.resolved i)) c.resolve_expr.ensures.words c.loop-typed.invariant

pub returns-clause-resolved : goal.returns-clause-resolved
returns-clause-resolved c =
    (walked_all view.typed (resolved_type (var_in c.args.ids.now) (lock_in c.args.ids.now)) (λ t. HasWords t.1) c.args.types.now c.loop-typed.types c.loop-typed.typed-index
    (omega (arith, c.loop-typed.auto.types, c.loop-typed-test.false)) c.loop-typed.invariant).0

pub returns-clause-words : goal.returns-clause-words
returns-clause-words c =
    (walked_all view.typed (resolved_type (var_in c.args.ids.now) (lock_in c.args.ids.now)) (λ t. HasWords t.1) c.args.types.now c.loop-typed.types c.loop-typed.typed-index
    (omega (arith, c.loop-typed.auto.types, c.loop-typed-test.false)) c.loop-typed.invariant).1
