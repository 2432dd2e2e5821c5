use Rattle.cov_expr.specs.Trees.{subst}
use Rattle.cov_expr.specs.View.{term}
use Rattle.cov_ast.specs.View as view
use Rattle.point_law.specs.Point.{type_at}
use Rattle.typing_law.specs.Entailments.{from_one_more, retype_follows}
use Rattle.typing_rules.specs.Listed.{entailments_of}
use Rattle.typing_rules.proofs.ListedLaws.{listed_more, listed_all, added_one, large, large_more, large_at}
use Rattle.typing_rules.proofs.entailments_of_assignments.add_retypes.Goals as goal

pub returns-in_default : goal.returns-in_default
returns-in_default c p t a kept =
    let r = c.r-item.result in
    let whole = subst (term r.class) c.args.x (term c.args.e.now) in
    large_at (retype_follows p t a c.args.x (term c.args.e.now)) view.retype c.args.retypes.now c.loop-r.r-index r c.loop-r-test.true c.r-item.is
    (large_more a.preds whole (type_at a r.var) (large whole (rw c.in_default.is at c.in_ok-more.ensures)))

pub loop-r-preserved : goal.loop-r-preserved
loop-r-preserved c p t a kept =
    let r = c.r-item.result in
    let asked = retype_follows p t a c.args.x (term c.args.e.now) in
    let made = rw c.in-Some.is at c.in_ok-more.ensures in
    listed_more asked view.retype (entailments_of a.preds c.loop-r.entailments) (entailments_of a.preds c.push.new.self) c.args.retypes.now c.loop-r.r-index r _
    c.loop-r-test.true c.r-item.is
    (added_one a.preds c.loop-r.entailments c.push.new.self _ (asked (view.retype r)) c.in_ok-push.ensures.ok
    (λ i. from_one_more a.preds (made i) (c.type_held.ensures p t a kept i)))
    (c.loop-r.invariant p t a kept)

pub returns : goal.returns
returns c p t a kept =
    listed_all (retype_follows p t a c.args.x (term c.args.e.now)) view.retype (entailments_of a.preds c.loop-r.entailments) c.args.retypes.now c.loop-r.r-index _
    c.loop-r-test.false (c.loop-r.invariant p t a kept)
