use Rattle.std.proofs.Common.{ℕ, ◌&&◌, ◌||◌, not, Bool, length, map, sym, ap, ◌∙◌, subst, arith, below_more}
use Rattle.std.proofs.lemmas.List.{length-map}
use Rattle.cov_expr.specs.Words.{HasVarsBelow}
use Rattle.cov_ast.specs.Plain.{class_term, plain}
use Rattle.cov_ast.specs.Tables.{has}
use Rattle.cov_ast.specs.View as view
use Rattle.cov_ast.proofs.WellFormedLaws.{class_in_range}
use Rattle.flow_model.specs.FirstDifference.{is_low_in, is_true_in}
use Rattle.flow_model.specs.Inside.{is_marked_apart}
use Rattle.flow_model.proofs.Apart.{class_seen, apart, words_same, passed_over}
use Rattle.flow_model.proofs.Firsts.{found, none_found}
use Rattle.flow_model.proofs.agreement.marked_apart.Goals as goal
use Rattle.flow_model.proofs.agreement.marked_apart.Goals.{else-m1-x-via-then-m1-x+else-is_compared, else-m1-x-via-else-m1-x}

pub is_compared-requires : goal.is_compared-requires
is_compared-requires c =
    subst (HasVarsBelow (class_term (view.class c.var-item.result.class))) (sym c.requires.first_memory)
    (class_in_range c.args.p.now c.requires.formed c.loop-x.x c.var-item.result
    (rw c.as_slice-var-items.ensures at c.loop-x-test.true) (rw c.as_slice-var-items.ensures at c.var-item.is))

pub loop-x-preserved : goal.loop-x-preserved
loop-x-preserved c =
    below_more _ _ c.loop-x.invariant
    (elim c.else-m1-x.branch [
      | else-m1-x-via-then-m1-x+else-is_compared w ↦
          passed_over c.args.m1.now c.args.m2.now c.loop-x.x _
          (ap (λ e. has c.args.controls.now c.loop-x.x || (is_true_in e c.args.m1.now && not (has c.args.hidden.now c.loop-x.x)))
          (sym (class_seen c.args.p.now c.loop-x.x c.var-item.result
          (rw c.as_slice-var-items.ensures at c.loop-x-test.true) (rw c.as_slice-var-items.ensures at c.var-item.is)))
          ∙ sym w.is_compared.ensures ∙ w.if-is_compared.false)
      | else-m1-x-via-else-m1-x w ↦ words_same c.args.m1.now c.args.m2.now c.loop-x.x _ w.if-m1-x.false
    ])

pub returns-then-is_compared : goal.returns-then-is_compared
returns-then-is_compared c =
    let p = plain (view.program c.args.p.now) in
    let counts : ℕ → Bool = λ x. has c.args.controls.now x || (is_low_in p c.args.m1.now x && not (has c.args.hidden.now x)) in
    found (is_marked_apart p c.args.m1.now c.args.m2.now c.args.controls.now c.args.hidden.now) (length (map view.var c.args.p.now.vars)) c.loop-x.x
    (omega (arith, length-map c.args.p.now.vars view.var, rw c.as_slice-var-items.ensures at c.loop-x-test.true))
    (apart c.args.m1.now c.args.m2.now c.loop-x.x (counts c.loop-x.x) c.if-m1-x.true
    (ap (λ e. has c.args.controls.now c.loop-x.x || (is_true_in e c.args.m1.now && not (has c.args.hidden.now c.loop-x.x)))
    (sym (class_seen c.args.p.now c.loop-x.x c.var-item.result
    (rw c.as_slice-var-items.ensures at c.loop-x-test.true) (rw c.as_slice-var-items.ensures at c.var-item.is)))
    ∙ sym c.is_compared.ensures ∙ c.if-is_compared.true))
    c.loop-x.invariant

pub returns : goal.returns
returns c =
    let p = plain (view.program c.args.p.now) in
    none_found (is_marked_apart p c.args.m1.now c.args.m2.now c.args.controls.now c.args.hidden.now) (length (map view.var c.args.p.now.vars))
    (λ k h. c.loop-x.invariant k (omega (arith, length-map c.args.p.now.vars view.var, rw c.as_slice-var-items.ensures at c.loop-x-test.false, h)))
