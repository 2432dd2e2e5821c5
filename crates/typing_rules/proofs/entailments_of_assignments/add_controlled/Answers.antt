use Rattle.std.proofs.Common.{◌≡◌, ◌<◌, ◌+◌, ◌++◌, ◌∙◌, ap, sym, length, map, arith}
use Rattle.std.specs.Prelude.{filter}
use Rattle.std.specs.List.{range_with_len}
use Rattle.std.proofs.lemmas.List.{length-map}
use Rattle.cov_expr.specs.View.{term}
use Rattle.cov_ast.specs.Declarations.{is_control}
use Rattle.cov_ast.specs.Plain.{plain}
use Rattle.cov_ast.specs.View as view
use Rattle.typing_law.specs.Entailments.{controlled_follows, shown_controlled}
use Rattle.typing_rules.specs.Listed.{entailments_of, is_shown_controlled}
use Rattle.typing_rules.proofs.ListedLaws.{added_none, added_if, large_if, large_between, range_more, range_passed, undecided}
use Rattle.typing_rules.proofs.entailments_of_assignments.add_controlled.Goals as goal

pub returns-then-not-is_control : goal.returns-then-not-is_control
returns-then-not-is_control c t a kept =
    let p = plain (view.program c.args.p.now) in
    let x = c.args.x in
    let inside : x < length (map view.var c.args.p.now.vars) = omega (arith, c.requires.variable, length-map c.args.p.now.vars view.var) in
    added_none (is_control p x) (entailments_of a.preds c.args.entailments.now) (map (controlled_follows p t a x (term c.args.e.now)) (shown_controlled p t a x))
    (sym (c.is_control.ensures p t a kept inside) ∙ c.if-not-is_control.true)

pub returns-then-not-branch : goal.returns-then-not-branch
returns-then-not-branch c t a kept =
    let p = plain (view.program c.args.p.now) in
    let x = c.args.x in
    let y = c.in-Some.y in
    let asked = controlled_follows p t a x (term c.args.e.now) in
    let inside : x < length (map view.var c.args.p.now.vars) = omega (arith, c.requires.variable, length-map c.args.p.now.vars view.var) in
    let below : y < 0 + length (map view.var c.args.p.now.vars) = omega (arith, c.in-Some.ensures.within.1, length-map c.args.p.now.vars view.var) in
    large_if (is_control p x) (map asked (shown_controlled p t a x)) (sym (c.is_control.ensures p t a kept inside) ∙ c.if-not-is_control.false)
    (large_between asked (is_shown_controlled p t a x) 0 (length p.vars) y (omega arith) below
    (rw c.if-not-branch.true at (c.in_ok-add_controlled_by.ensures t a kept)))

pub loop-y-preserved : goal.loop-y-preserved
loop-y-preserved c =
    let p = plain (view.program c.args.p.now) in
    let y = c.in-Some.y in
    let x = c.args.x in (
      omega (arith, c.in-Some.ensures.within.1),
      λ t a kept. let next = c.in-Some.ensures.done t a kept in
          range_more (controlled_follows p t a x (term c.args.e.now)) (is_shown_controlled p t a x) (entailments_of a.preds c.args.entailments.now)
          (entailments_of a.preds c.loop-y.entailments) (entailments_of a.preds c.add_controlled_by.new.entailments) y
          (c.loop-y.invariant.1 t a kept
          ∙ ap (λ ks. entailments_of a.preds c.args.entailments.now ++ map (controlled_follows p t a x (term c.args.e.now)) ks)
          (range_passed (is_shown_controlled p t a x) c.loop-y.from y next.1 (λ k le lt. undecided p t a x k (next.2 k le lt))))
          (rw c.if-not-branch.false at (c.in_ok-add_controlled_by.ensures t a kept)),
    )

pub returns : goal.returns
returns c t a kept =
    let p = plain (view.program c.args.p.now) in
    let x = c.args.x in
    let asked = controlled_follows p t a x (term c.args.e.now) in
    let inside : x < length (map view.var c.args.p.now.vars) = omega (arith, c.requires.variable, length-map c.args.p.now.vars view.var) in
    let all : length c.args.p.now.vars ≡ length (map view.var c.args.p.now.vars) = sym (length-map c.args.p.now.vars view.var) in
    let first = entailments_of a.preds c.args.entailments.now in
    let shown = is_shown_controlled p t a x in
    added_if (is_control p x) first (entailments_of a.preds c.loop-y.entailments) (map asked (shown_controlled p t a x))
    (sym (c.is_control.ensures p t a kept inside) ∙ c.if-not-is_control.false)
    (c.loop-y.invariant.1 t a kept
    ∙ ap (λ ks. first ++ map asked ks) (range_passed shown c.loop-y.from (length c.args.p.now.vars) c.loop-y.invariant.0 (λ k le lt. undecided p t a x k (c.in_default.ensures.done t a kept k le lt)))
    ∙ ap (λ n. first ++ map asked (filter shown (range_with_len 0 n))) all)
