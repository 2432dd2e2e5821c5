use Rattle.cov_ast.specs.Ready.{uses_in_lock}
use Rattle.cov_ast.specs.View as view
use Rattle.annotate.specs.declared.uses.Way.TheVariants.{Keep}
use Rattle.annotate.proofs.GoingLaws.{list_ends, list_goes_on}
use Rattle.annotate.proofs.uses.Uses.keep_locks.Goals as goal

pub loop-lock-preserved : goal.loop-lock-preserved
loop-lock-preserved c =
    list_goes_on Keep uses_in_lock view.lock c.args.locks.now c.loop-lock.lock-index c.lock-item.result _ _ _ c.loop-lock-test.true c.lock-item.is c.loop-lock.invariant c.in_ok-keep_lock.ensures

pub returns : goal.returns
returns c = list_ends Keep uses_in_lock view.lock c.args.locks.now c.loop-lock.lock-index _ _ c.loop-lock-test.false c.loop-lock.invariant
