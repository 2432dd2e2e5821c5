use Rattle.std.proofs.Common.{arith}
use Rattle.cov_expr.specs.Words.{HasWords}
use Rattle.cov_ast.specs.View as view
use Rattle.cov_ast.specs.Declarations.{invariant_term}
use Rattle.policy_class.specs.Inside.Ids.{var_in, lock_in}
use Rattle.policy_class.specs.Resolved.{resolved_lock}
use Rattle.policy_class.proofs.WalkLaws.{walked_none, walked_more, walked_all}
use Rattle.policy_class.proofs.programs.resolve_locks.Goals as goal

pub loop-lock-init : goal.loop-lock-init
loop-lock-init c = walked_none view.lock (resolved_lock (var_in c.args.ids.now) (lock_in c.args.ids.now)) (λ k. HasWords (invariant_term k.inv)) c.args.locks.now

pub loop-lock-preserved : goal.loop-lock-preserved
loop-lock-preserved c =
    walked_more view.lock (resolved_lock (var_in c.args.ids.now) (lock_in c.args.ids.now)) (λ k. HasWords (invariant_term k.inv)) c.args.locks.now c.loop-lock.locks c.loop-lock.lock-index
    c.lock-item.result _ (omega (arith, c.loop-lock.auto.locks, c.loop-lock-test.true)) c.resolve_lock.ensures.resolved c.resolve_lock.ensures.words c.loop-lock.invariant

pub returns-clause-resolved : goal.returns-clause-resolved
returns-clause-resolved c =
    (walked_all view.lock (resolved_lock (var_in c.args.ids.now) (lock_in c.args.ids.now)) (λ k. HasWords (invariant_term k.inv)) c.args.locks.now c.loop-lock.locks c.loop-lock.lock-index
    (omega (arith, c.loop-lock.auto.locks, c.loop-lock-test.false)) c.loop-lock.invariant).0

pub returns-clause-words : goal.returns-clause-words
returns-clause-words c =
    (walked_all view.lock (resolved_lock (var_in c.args.ids.now) (lock_in c.args.ids.now)) (λ k. HasWords (invariant_term k.inv)) c.args.locks.now c.loop-lock.locks c.loop-lock.lock-index
    (omega (arith, c.loop-lock.auto.locks, c.loop-lock-test.false)) c.loop-lock.invariant).1
