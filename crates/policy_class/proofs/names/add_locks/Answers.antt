use Rattle.std.proofs.Common.{◌∙◌, refl}
use Rattle.cov_ast.specs.View as view
use Rattle.policy_class.specs.Resolved.{lock_named}
use Rattle.policy_class.proofs.NameLaws.{declared_more}
use Rattle.policy_class.proofs.names.add_locks.Goals as goal

pub loop-lock-preserved : goal.loop-lock-preserved
loop-lock-preserved c =
    declared_more view.lock lock_named c.loop-lock.made c.push.new.self c.args.locks.now c.loop-lock.lock-index c.lock-item.result _
    c.loop-lock-test.true c.lock-item.is c.in_ok-push.ensures.ok refl
    ∙ c.loop-lock.invariant
