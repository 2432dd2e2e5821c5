use Rattle.std.proofs.Common.{◌∙◌, refl}
use Rattle.cov_ast.specs.View as view
use Rattle.policy_class.specs.Resolved.{thread_named}
use Rattle.policy_class.proofs.NameLaws.{declared_more}
use Rattle.policy_class.proofs.names.add_threads.Goals as goal

pub loop-thread-preserved : goal.loop-thread-preserved
loop-thread-preserved c =
    declared_more view.thread thread_named c.loop-thread.made c.push.new.self c.args.threads.now c.loop-thread.thread-index c.thread-item.result _
    c.loop-thread-test.true c.thread-item.is c.in_ok-push.ensures.ok refl
    ∙ c.loop-thread.invariant
