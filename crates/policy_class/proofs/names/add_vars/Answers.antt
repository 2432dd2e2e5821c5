use Rattle.std.proofs.Common.{◌∙◌, refl}
use Rattle.cov_ast.specs.View as view
use Rattle.policy_class.specs.Resolved.{var_named}
use Rattle.policy_class.proofs.NameLaws.{declared_more}
use Rattle.policy_class.proofs.names.add_vars.Goals as goal

pub loop-var-preserved : goal.loop-var-preserved
loop-var-preserved c =
    declared_more view.var var_named c.loop-var.made c.push.new.self c.args.vars.now c.loop-var.var-index c.var-item.result _
    c.loop-var-test.true c.var-item.is c.in_ok-push.ensures.ok refl
    ∙ c.loop-var.invariant
