use Rattle.cov_ast.specs.Ready.{uses_in_type}
use Rattle.cov_ast.specs.View as view
use Rattle.annotate.specs.declared.uses.Way.TheVariants.{Keep}
use Rattle.annotate.proofs.GoingLaws.{list_ends, list_goes_on}
use Rattle.annotate.proofs.uses.Uses.keep_retypes.Goals as goal

pub loop-retype-preserved : goal.loop-retype-preserved
loop-retype-preserved c =
    list_goes_on Keep uses_in_type view.retype c.args.retypes.now c.loop-retype.retype-index c.retype-item.result _ _ _ c.loop-retype-test.true c.retype-item.is c.loop-retype.invariant c.in_ok-keep_type.ensures

pub returns : goal.returns
returns c = list_ends Keep uses_in_type view.retype c.args.retypes.now c.loop-retype.retype-index _ _ c.loop-retype-test.false c.loop-retype.invariant
