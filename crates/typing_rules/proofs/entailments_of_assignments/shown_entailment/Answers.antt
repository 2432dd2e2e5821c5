use Rattle.std.proofs.Common.{[], ◌∷◌, ◌<◌, ◌∙◌, ap, sym, length, map, arith, not, ◌||◌}
use Rattle.std.proofs.lemmas.List.{length-map}
use Rattle.cov_expr.specs.View.{term}
use Rattle.cov_ast.specs.Declarations.{class_of, is_control}
use Rattle.cov_ast.specs.Plain.{plain}
use Rattle.cov_ast.specs.View as view
use Rattle.mode_state.specs.Sets.{is_hidden}
use Rattle.typing_law.specs.Entailments.{from_one_more}
use Rattle.entail_cert.specs.HeldTerms.{held_term}
use Rattle.typing_rules.proofs.ListedLaws.{added_if, added_none}
use Rattle.typing_rules.proofs.entailments_of_assignments.shown_entailment.Goals as goal

pub returns-then-not-is_shown : goal.returns-then-not-is_shown
returns-then-not-is_shown c t a kept =
    let p = plain (view.program c.args.p.now) in
    let x = c.args.x in
    let inside : x < length (map view.var c.args.p.now.vars) = omega (arith, c.requires, length-map c.args.p.now.vars view.var) in
    added_none (is_control p x || not (is_hidden p t a.held x)) [] (from_one_more a.preds (class_of p x) (term c.args.q.now) ∷ [])
    (sym (c.is_shown.ensures p t a kept inside) ∙ c.if-not-is_shown.true)

pub returns : goal.returns
returns c t a kept =
    let p = plain (view.program c.args.p.now) in
    let x = c.args.x in
    let q = term c.args.q.now in
    let inside : x < length (map view.var c.args.p.now.vars) = omega (arith, c.requires, length-map c.args.p.now.vars view.var) in
    added_if (is_control p x || not (is_hidden p t a.held x)) [] (from_one_more a.preds (held_term c.class_held.result) q ∷ []) (from_one_more a.preds (class_of p x) q ∷ [])
    (sym (c.is_shown.ensures p t a kept inside) ∙ c.if-not-is_shown.false) (ap (λ r. from_one_more a.preds r q ∷ []) c.class_held.ensures)
