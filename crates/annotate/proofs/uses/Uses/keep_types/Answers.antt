use Rattle.cov_ast.specs.Ready.{uses_in_type}
use Rattle.cov_ast.specs.View as view
use Rattle.annotate.specs.declared.uses.Way.TheVariants.{Keep}
use Rattle.annotate.proofs.GoingLaws.{list_ends, list_goes_on}
use Rattle.annotate.proofs.uses.Uses.keep_types.Goals as goal

pub loop-ty-preserved : goal.loop-ty-preserved
loop-ty-preserved c =
    list_goes_on Keep uses_in_type view.typed c.args.types.now c.loop-ty.ty-index c.ty-item.result _ _ _ c.loop-ty-test.true c.ty-item.is c.loop-ty.invariant c.in_ok-keep_type.ensures

pub returns : goal.returns
returns c = list_ends Keep uses_in_type view.typed c.args.types.now c.loop-ty.ty-index _ _ c.loop-ty-test.false c.loop-ty.invariant
