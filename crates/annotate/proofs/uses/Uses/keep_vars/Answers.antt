use Rattle.cov_ast.specs.Ready.{uses_in_class}
use Rattle.cov_ast.specs.View as view
use Rattle.annotate.specs.declared.uses.Way.TheVariants.{Keep}
use Rattle.annotate.proofs.GoingLaws.{list_ends, list_goes_on}
use Rattle.annotate.proofs.uses.Uses.keep_vars.Goals as goal

pub loop-var-preserved : goal.loop-var-preserved
loop-var-preserved c =
    list_goes_on Keep (λ v. uses_in_class v.class) view.var c.args.vars.now c.loop-var.var-index c.var-item.result _ _ _ c.loop-var-test.true c.var-item.is c.loop-var.invariant c.in_ok-keep_class.ensures

pub returns : goal.returns
returns c = list_ends Keep (λ v. uses_in_class v.class) view.var c.args.vars.now c.loop-var.var-index _ _ c.loop-var-test.false c.loop-var.invariant
