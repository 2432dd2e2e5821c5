use Rattle.std.proofs.Common.{ap}
use Rattle.cov_expr.specs.View.{term}
use Rattle.cov_ast.specs.View as view
use Rattle.typing_law.specs.Entailments.{from_one_more, type_follows}
use Rattle.typing_rules.specs.Listed.{entailments_of}
use Rattle.typing_rules.proofs.ListedLaws.{listed_more, listed_all, added_one}
use Rattle.typing_rules.proofs.entailments_of_states.add_types.Goals as goal

pub loop-z-preserved : goal.loop-z-preserved
loop-z-preserved c p t a kept =
    let x = c.loop-z-item.result in
    listed_more (type_follows a) view.typed (entailments_of a.preds c.loop-z.entailments) (entailments_of a.preds c.push.new.self) c.args.types.now c.loop-z.z-index x _
    c.loop-z-test.true c.loop-z-item.is
    (added_one a.preds c.loop-z.entailments c.push.new.self _ (type_follows a (view.typed x)) c.in_ok-push.ensures.ok
    (ap (from_one_more a.preds (term x.1)) (c.type_held.ensures p t a kept)))
    (c.loop-z.invariant p t a kept)

pub returns : goal.returns
returns c p t a kept =
    listed_all (type_follows a) view.typed (entailments_of a.preds c.loop-z.entailments) c.args.types.now c.loop-z.z-index _ c.loop-z-test.false
    (c.loop-z.invariant p t a kept)
