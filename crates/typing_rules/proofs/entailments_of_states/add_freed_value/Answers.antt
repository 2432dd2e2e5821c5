use Rattle.typing_rules.proofs.entailments_of_states.add_freed_value.Goals as goal
use Rattle.std.proofs.Common.{[], ◌∷◌, ◌<◌, ◌∙◌, ap, sym, length, map, arith, not}
use Rattle.std.proofs.lemmas.List.{length-map}
use Rattle.cov_ast.specs.Declarations.{is_control}
use Rattle.cov_ast.specs.Plain.{plain}
use Rattle.cov_ast.specs.View as view
use Rattle.typing_law.specs.Entailments.{freed_value, from_one_more}
use Rattle.typing_rules.specs.Listed.{entailments_of}
use Rattle.typing_rules.proofs.ListedLaws.{added_one, added_if, added_none}

pub returns-then-is_control : goal.returns-then-is_control
returns-then-is_control c t a kept =
    let p = plain (view.program c.args.p.now) in
    let x = c.args.x in
    let inside : x < length (map view.var c.args.p.now.vars) = omega (arith, c.requires, length-map c.args.p.now.vars view.var) in
    added_none (not (is_control p x)) (entailments_of a.preds c.args.entailments.now) (freed_value p t a x ∷ [])
    (ap not (sym (c.is_control.ensures p t a kept inside) ∙ c.if-is_control.true))

pub returns : goal.returns
returns c t a kept =
    let p = plain (view.program c.args.p.now) in
    let x = c.args.x in
    let inside : x < length (map view.var c.args.p.now.vars) = omega (arith, c.requires, length-map c.args.p.now.vars view.var) in
    added_if (not (is_control p x)) (entailments_of a.preds c.args.entailments.now) (entailments_of a.preds c.push.new.self) (freed_value p t a x ∷ [])
    (ap not (sym (c.is_control.ensures p t a kept inside) ∙ c.if-is_control.false))
    (added_one a.preds c.args.entailments.now c.push.new.self _ (freed_value p t a x) c.in_ok-push.ensures.ok
    (λ i. from_one_more a.preds (c.class_held.ensures i) (c.type_held.ensures p t a kept i)))
