use Rattle.std.proofs.Common.{◌≡◌, ◌∙◌, true, map, subst, sym}
use Rattle.cov_expr.specs.Trees.{has_term}
use Rattle.cov_expr.specs.View.{term}
use Rattle.typing_rules.proofs.SeenLaws.{has_at}
use Rattle.typing_rules.proofs.known.is_pred_at.Goals as goal

pub returns-in-Some : goal.returns-in-Some
returns-in-Some c p t a kept same =
    let e = term c.args.e.now in
    let f = c.in-Some.pred.now in
    let found = c.in-Some.ensures.lookup in
    let preds = (λ i. map term (c.as_slice.ensures i)) ∙ c.preds.ensures p t a kept in
    subst (λ es. has_term es e ≡ true) preds (has_at c.as_slice.result.now c.args.place f e found.3.0 found.1 (sym c.same.ensures.test ∙ same))
