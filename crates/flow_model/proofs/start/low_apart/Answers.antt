use Rattle.std.proofs.Common.{length, map, ap, sym, subst, ◌∙◌, arith}
use Rattle.std.proofs.lemmas.List.{length-map}
use Rattle.cov_expr.specs.Words.{HasVarsBelow}
use Rattle.cov_ast.specs.Plain.{class_term, plain}
use Rattle.cov_ast.specs.View as view
use Rattle.cov_ast.proofs.WellFormedLaws.{class_in_range}
use Rattle.flow_model.specs.FirstDifference.{is_low_apart, is_low_in, is_true_in}
use Rattle.flow_model.proofs.Apart.{class_seen, apart}
use Rattle.flow_model.proofs.Firsts.{found, none_found}
use Rattle.flow_model.proofs.start.low_apart.Goals as goal

pub is_low-requires : goal.is_low-requires
is_low-requires c =
    subst (HasVarsBelow (class_term (view.class c.var-item.result.class))) (sym c.requires.first_memory)
    (class_in_range c.args.p.now c.requires.formed c.loop-x.x c.var-item.result
    (rw c.as_slice-var-items.ensures at c.loop-x-test.true) (rw c.as_slice-var-items.ensures at c.var-item.is))

pub returns-then-is_low : goal.returns-then-is_low
returns-then-is_low c =
    let p = plain (view.program c.args.p.now) in
    found (is_low_apart p c.args.m1.now c.args.m2.now) (length (map view.var c.args.p.now.vars)) c.loop-x.x
    (omega (arith, length-map c.args.p.now.vars view.var, rw c.as_slice-var-items.ensures at c.loop-x-test.true))
    (apart c.args.m1.now c.args.m2.now c.loop-x.x (is_low_in p c.args.m1.now c.loop-x.x) c.if-m1-x.true
    (ap (λ e. is_true_in e c.args.m1.now)
    (sym (class_seen c.args.p.now c.loop-x.x c.var-item.result
    (rw c.as_slice-var-items.ensures at c.loop-x-test.true) (rw c.as_slice-var-items.ensures at c.var-item.is)))
    ∙ sym c.is_low.ensures ∙ c.if-is_low.true))
    c.loop-x.invariant

pub returns : goal.returns
returns c =
    let p = plain (view.program c.args.p.now) in
    none_found (is_low_apart p c.args.m1.now c.args.m2.now) (length (map view.var c.args.p.now.vars))
    (λ k h. c.loop-x.invariant k (omega (arith, length-map c.args.p.now.vars view.var, rw c.as_slice-var-items.ensures at c.loop-x-test.false, h)))
