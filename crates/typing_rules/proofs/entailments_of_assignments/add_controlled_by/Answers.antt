use Rattle.std.proofs.Common.{[], ◌∷◌, ◌≡◌, ◌<◌, ◌∙◌, ap, sym, length, map, arith}
use Rattle.std.proofs.lemmas.List.{length-map}
use Rattle.cov_expr.specs.Trees as tree
use Rattle.cov_expr.specs.View.{term}
use Rattle.cov_ast.specs.Declarations.{class_of}
use Rattle.cov_ast.specs.Plain.{plain, class_term}
use Rattle.cov_ast.specs.View as view
use Rattle.point_law.specs.Point.{ty_var}
use Rattle.typing_law.specs.Entailments.{from_one_more, controlled_follows}
use Rattle.typing_rules.specs.Listed.{entailments_of, is_shown_controlled}
use Rattle.point_law.specs.Terms.{is_small}
use Rattle.typing_rules.proofs.ListedLaws.{added_none, added_if, added_one, decided, unseen, large, large_more, large_alone, large_if}
use Rattle.typing_rules.proofs.entailments_of_assignments.add_controlled_by.Goals as goal

pub returns-then-hidden : goal.returns-then-hidden
returns-then-hidden c t a kept =
    let p = plain (view.program c.args.p.now) in
    let y = c.args.y in
    let inside : y < length (map view.var c.args.p.now.vars) = omega (arith, c.requires, length-map c.args.p.now.vars view.var) in
    added_none (is_shown_controlled p t a c.args.x y) (entailments_of a.preds c.args.entailments.now) (controlled_follows p t a c.args.x (term c.args.e.now) y ∷ [])
    (unseen p t a c.args.x y (sym (c.hidden.ensures p t a.held (c.modes.ensures p t a kept) inside) ∙ c.if-hidden.true))

pub returns-in_default-2 : goal.returns-in_default-2
returns-in_default-2 c t a kept =
    let p = plain (view.program c.args.p.now) in
    let x = c.args.x in
    let y = c.args.y in
    let e = term c.args.e.now in
    let class = term c.in-When.class in
    let is : class ≡ class_of p y = sym (ap (λ k. class_term (view.class k)) c.in-When.is) ∙ ap class_term c.class_of.ensures in
    let inside : y < length (map view.var c.args.p.now.vars) = omega (arith, c.requires, length-map c.args.p.now.vars view.var) in
    let whole = tree.subst (class_of p y) x e in
    let asked = controlled_follows p t a x e y in
    large_if (is_shown_controlled p t a x y) (asked ∷ [])
    (decided p t a x y class is (sym c.mentions.ensures ∙ c.if-not-mentions.false)
    (sym (c.hidden.ensures p t a.held (c.modes.ensures p t a kept) inside) ∙ c.if-hidden.false))
    (large_alone asked (large_more a.preds whole (ty_var p t a y)
    (ap (λ q. is_small (tree.subst q x e)) (sym is) ∙ large (tree.subst class x e) (rw c.in_default-2.is at c.in_ok-more.ensures))))

pub returns : goal.returns
returns c t a kept =
    let p = plain (view.program c.args.p.now) in
    let x = c.args.x in
    let y = c.args.y in
    let e = term c.args.e.now in
    let class = term c.in-When.class in
    let is : class ≡ class_of p y = sym (ap (λ k. class_term (view.class k)) c.in-When.is) ∙ ap class_term c.class_of.ensures in
    let inside : y < length (map view.var c.args.p.now.vars) = omega (arith, c.requires, length-map c.args.p.now.vars view.var) in
    let asked = controlled_follows p t a x e y in
    let made = rw c.in-Some.is at c.in_ok-more.ensures in
    added_if (is_shown_controlled p t a x y) (entailments_of a.preds c.args.entailments.now) (entailments_of a.preds c.push.new.self) (asked ∷ [])
    (decided p t a x y class is (sym c.mentions.ensures ∙ c.if-not-mentions.false)
    (sym (c.hidden.ensures p t a.held (c.modes.ensures p t a kept) inside) ∙ c.if-hidden.false))
    (added_one a.preds c.args.entailments.now c.push.new.self _ asked c.in_ok-push.ensures.ok
    (λ i. from_one_more a.preds ((made ∙ ap (λ q. tree.subst q x e) is) i) (c.read_held.ensures t a kept i)))
