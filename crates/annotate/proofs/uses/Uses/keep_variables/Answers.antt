use Rattle.cov_ast.specs.Ready.{as_variable}
use Rattle.annotate.specs.declared.uses.Way.TheVariants.{Keep}
use Rattle.annotate.proofs.GoingLaws.{numbers_end, numbers_go_on}
use Rattle.annotate.proofs.uses.Uses.keep_variables.Goals as goal

pub loop-x-preserved : goal.loop-x-preserved
loop-x-preserved c = numbers_go_on Keep as_variable c.args.xs.now c.loop-x.x-index _ _ _ c.loop-x-test.true c.loop-x.invariant c.in_ok-variable.ensures

pub returns : goal.returns
returns c = numbers_end Keep as_variable c.args.xs.now c.loop-x.x-index _ _ c.loop-x-test.false c.loop-x.invariant
