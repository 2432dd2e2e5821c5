use Rattle.std.proofs.Common.{ℕ, Bool, ◌<◌, ◌&&◌, All, length, arith, refl, sym, ap, ◌∙◌, subst}
use Rattle.std.specs.List.{list_all}
use Rattle.std.proofs.lemmas.List.{take_all}
use Rattle.std.proofs.lemmas.List.Elements.{All-get_or}
use Rattle.std.proofs.lemmas.List.Folds.{list_all_at, list_all_more}
use Rattle.cov_expr.specs.View.{term}
use Rattle.point_law.specs.Point.{is_over_controls, ty_var}
use Rattle.typing_rules.specs.Inside.Walking.{plain_of}
use Rattle.typing_rules.proofs.LargeTypes.{controls_of_type}
use Rattle.typing_rules.proofs.ReadTypes.{vars_below}
use Rattle.typing_rules.proofs.walk.Walk.is_read_over_controls.Goals as goal

pub loop-y-init : goal.loop-y-init
loop-y-init c a k = refl

pub is_over_controls-requires-clause-variable : goal.is_over_controls-requires-clause-variable
is_over_controls-requires-clause-variable c =
    let n = length c.args.self.now.program.now.vars in
    let items = c.as_slice-y-items.result.now in
    All-get_or (λ y. y < n) items c.loop-y.y-index 0 c.loop-y-test.true
    (subst (All (λ y. y < n)) (sym (c.as_slice-y-items.ensures ∙ c.in_ok-read.ensures)) (vars_below n (term c.args.e.now) c.requires.value))

pub returns-then-not-is_over_controls : goal.returns-then-not-is_over_controls
returns-then-not-is_over_controls c a k =
    let w = c.args.self.now in
    let p = plain_of w in
    let test : ℕ → Bool = λ y. is_over_controls p w.thread a.held (ty_var p w.thread a y) in
    let items = c.as_slice-y-items.result.now in
    sym (controls_of_type p w.thread a (term c.args.e.now) ∙ ap (list_all test) (sym (c.as_slice-y-items.ensures ∙ c.in_ok-read.ensures))
    ∙ list_all_at test items c.loop-y.y-index 0 c.loop-y-test.true (sym (c.is_over_controls.ensures a k) ∙ c.if-not-is_over_controls.true))

pub loop-y-preserved : goal.loop-y-preserved
loop-y-preserved c a k =
    let w = c.args.self.now in
    let p = plain_of w in
    let test : ℕ → Bool = λ y. is_over_controls p w.thread a.held (ty_var p w.thread a y) in
    list_all_more test c.as_slice-y-items.result.now c.loop-y.y-index 0 c.loop-y-test.true
    ∙ (λ i. c.loop-y.invariant a k i && (sym (c.is_over_controls.ensures a k) ∙ c.if-not-is_over_controls.false) i)

pub returns : goal.returns
returns c a k =
    let w = c.args.self.now in
    let p = plain_of w in
    let test : ℕ → Bool = λ y. is_over_controls p w.thread a.held (ty_var p w.thread a y) in
    let items = c.as_slice-y-items.result.now in
    sym (controls_of_type p w.thread a (term c.args.e.now) ∙ ap (list_all test) (sym (c.as_slice-y-items.ensures ∙ c.in_ok-read.ensures))
    ∙ ap (list_all test) (sym (take_all c.loop-y.y-index items (omega (arith, c.loop-y-test.false)))) ∙ c.loop-y.invariant a k)
