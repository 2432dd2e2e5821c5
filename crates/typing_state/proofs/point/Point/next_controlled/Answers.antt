use Rattle.std.proofs.Common.{◌≡◌, ◌∙◌, ◌<◌, ◌≤◌, ℕ, Bool, ap, length, not, true, subst, sym, arith}
use Rattle.std.specs.Prelude.{IfSome}
use Rattle.std.proofs.lemmas.List.{length-map}
use Rattle.cov_expr.specs.Trees.{mentions}
use Rattle.cov_ast.specs.Declarations.{class_of}
use Rattle.cov_ast.specs.Plain.{plain}
use Rattle.cov_ast.specs.View as view
use Rattle.typing_state.specs.KeptVariables.{AreVariables}
use Rattle.typing_state.specs.Next.{AreDone}
use Rattle.typing_state.specs.Inside.Least.{if_below}
use Rattle.typing_state.proofs.WalkLaws.{below_some, below_within, done_below}
use Rattle.typing_state.proofs.point.Point.next_controlled.Goals as goal

pub returns-clause-within : goal.returns-clause-within
returns-clause-within c =
    let next = c.next_controlled.result in
    let count = length c.args.p.now.vars in
    subst (λ r. IfSome r (λ y. (c.args.from ≤ y) × (y < count))) (sym (c.if_below.ensures ∙ ap (λ n. if_below n next) c.var_count.ensures))
    (below_within c.args.from count next c.next_controlled.ensures.further)

pub returns-clause-done : goal.returns-clause-done
returns-clause-done c t a kept =
    let p = plain (view.program c.args.p.now) in
    let count = length c.args.p.now.vars in
    let next = c.next_controlled.result in
    let f : ℕ → Bool = λ y. not (mentions (class_of p y) c.args.x) in
    subst (AreDone f c.args.from count) (sym (c.if_below.ensures ∙ ap (λ n. if_below n next) c.var_count.ensures))
    (done_below f c.args.from 256 count next (omega (arith, c.requires.formed.limits.variables, length-map c.args.p.now.vars view.var))
    (c.next_controlled.ensures.done p (subst (AreVariables p) (sym (c.deref-2.ensures ∙ ap (λ s. s.variables.value) c.deref.ensures)) kept.variables)))

pub returns-clause-controlled : goal.returns-clause-controlled
returns-clause-controlled c t a kept =
    let p = plain (view.program c.args.p.now) in
    let count = length c.args.p.now.vars in
    let next = c.next_controlled.result in
    subst (λ r. IfSome r (λ y. mentions (class_of p y) c.args.x ≡ true)) (sym (c.if_below.ensures ∙ ap (λ n. if_below n next) c.var_count.ensures))
    (below_some (λ y. mentions (class_of p y) c.args.x ≡ true) count next
    (c.next_controlled.ensures.controlled p (subst (AreVariables p) (sym (c.deref-2.ensures ∙ ap (λ s. s.variables.value) c.deref.ensures)) kept.variables)))
