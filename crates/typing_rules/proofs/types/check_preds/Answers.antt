use Rattle.std.proofs.Common.{◌∷◌, [], ◌∙◌, List, length, map, refl, subst, sym}
use Rattle.std.proofs.lemmas.List.{length-map}
use Rattle.cov_expr.specs.View.{term}
use Rattle.cov_expr.specs.Words.{HasVarsBelow}
use Rattle.cov_expr.specs.declared.expr.Expr.{Expr}
use Rattle.cov_ast.specs.Obligations.{Obligation}
use Rattle.cov_ast.specs.Plain.{plain}
use Rattle.cov_ast.specs.View as view
use Rattle.cov_ast.proofs.ObligationLaws.{loop_refused, loop_more}
use Rattle.cov_ast.proofs.WellFormedLaws.{seen_item}
use Rattle.typing_law.specs.ThreadObligations.{over_stable}
use Rattle.typing_law.proofs.VerdictLaws.{obligation_refused, obligation_held}
use Rattle.typing_rules.proofs.types.check_preds.Goals as goal

pub returns-then-not-is_over_stable : goal.returns-then-not-is_over_stable
returns-then-not-is_over_stable c a kept =
    let p = plain (view.program c.args.p.now) in
    let site = c.args.site in
    let e = c.e-item.result in
    let preds = c.args.preds.now in
    let F : List Expr → List Obligation = λ es. map (over_stable p site.thread site.place a.held) (map term es) in
    let below = seen_item term (λ u. HasVarsBelow u (length c.args.p.now.vars)) preds c.loop-e.e-index e c.requires c.loop-e-test.true c.e-item.is in
    let there = subst (HasVarsBelow (term e)) (sym (length-map c.args.p.now.vars view.var)) below in
    let f = over_stable p site.thread site.place a.held (term e) in
    loop_refused F F (f ∷ []) (F preds) preds c.loop-e.e-index e c.loop-e-test.true c.e-item.is (λ es. refl) (c.loop-e.invariant a kept) c.refused_at.result
    (obligation_refused f c.refused_at.result (sym (c.is_over_stable.ensures p there site.thread a kept) ∙ c.if-not-is_over_stable.true) c.refused_at.ensures)

pub loop-e-preserved : goal.loop-e-preserved
loop-e-preserved c a kept =
    let p = plain (view.program c.args.p.now) in
    let site = c.args.site in
    let e = c.e-item.result in
    let preds = c.args.preds.now in
    let F : List Expr → List Obligation = λ es. map (over_stable p site.thread site.place a.held) (map term es) in
    let below = seen_item term (λ u. HasVarsBelow u (length c.args.p.now.vars)) preds c.loop-e.e-index e c.requires c.loop-e-test.true c.e-item.is in
    let there = subst (HasVarsBelow (term e)) (sym (length-map c.args.p.now.vars view.var)) below in
    let f = over_stable p site.thread site.place a.held (term e) in
    loop_more F F (f ∷ []) (F preds) preds c.loop-e.e-index e c.loop-e-test.true c.e-item.is (λ es. refl) (c.loop-e.invariant a kept)
    (obligation_held f (sym (c.is_over_stable.ensures p there site.thread a kept) ∙ c.if-not-is_over_stable.false))
