use Rattle.std.proofs.Common.{arith}
use Rattle.cov_ast.specs.View as view
use Rattle.cov_ast.specs.WellFormed.{BlockHasWords}
use Rattle.policy_class.specs.Inside.Ids.{var_in, lock_in}
use Rattle.policy_class.specs.Resolved.{resolved_thread}
use Rattle.policy_class.proofs.WalkLaws.{walked_none, walked_more, walked_all}
use Rattle.policy_class.proofs.programs.resolve_threads.Goals as goal

pub loop-thread-init : goal.loop-thread-init
loop-thread-init c = walked_none view.thread (resolved_thread (var_in c.args.ids.now) (lock_in c.args.ids.now)) (λ t. BlockHasWords t.body) c.args.threads.now

pub loop-thread-preserved : goal.loop-thread-preserved
loop-thread-preserved c =
    walked_more view.thread (resolved_thread (var_in c.args.ids.now) (lock_in c.args.ids.now)) (λ t. BlockHasWords t.body) c.args.threads.now c.loop-thread.threads c.loop-thread.thread-index
    c.thread-item.result _ (omega (arith, c.loop-thread.auto.threads, c.loop-thread-test.true)) c.resolve_thread.ensures.resolved c.resolve_thread.ensures.words c.loop-thread.invariant

pub returns-clause-resolved : goal.returns-clause-resolved
returns-clause-resolved c =
    (walked_all view.thread (resolved_thread (var_in c.args.ids.now) (lock_in c.args.ids.now)) (λ t. BlockHasWords t.body) c.args.threads.now c.loop-thread.threads c.loop-thread.thread-index
    (omega (arith, c.loop-thread.auto.threads, c.loop-thread-test.false)) c.loop-thread.invariant).0

pub returns-clause-words : goal.returns-clause-words
returns-clause-words c =
    (walked_all view.thread (resolved_thread (var_in c.args.ids.now) (lock_in c.args.ids.now)) (λ t. BlockHasWords t.body) c.args.threads.now c.loop-thread.threads c.loop-thread.thread-index
    (omega (arith, c.loop-thread.auto.threads, c.loop-thread-test.false)) c.loop-thread.invariant).1
