use Rattle.cov_expr.specs.View.{term}
use Rattle.cov_ast.specs.Ready.{uses_in}
use Rattle.annotate.proofs.GoingLaws.{list_ends, list_goes_on}
use Rattle.annotate.proofs.uses.Uses.exprs.Goals as goal

pub loop-e-preserved : goal.loop-e-preserved
loop-e-preserved c =
    list_goes_on c.args.way uses_in term c.args.es.now c.loop-e.e-index c.e-item.result _ _ _ c.loop-e-test.true c.e-item.is c.loop-e.invariant c.in_ok-expr.ensures

pub returns : goal.returns
returns c = list_ends c.args.way uses_in term c.args.es.now c.loop-e.e-index _ _ c.loop-e-test.false c.loop-e.invariant
