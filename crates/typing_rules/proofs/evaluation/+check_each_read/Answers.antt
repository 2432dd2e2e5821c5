use Rattle.std.proofs.Common.{◌<◌, ◌∙◌, sym, ap, length, arith}
use Rattle.std.proofs.lemmas.List.{length-map}
use Rattle.cov_expr.specs.Term.{bin}
use Rattle.cov_expr.specs.View.{term}
use Rattle.cov_expr.proofs.View.{term-Var, term-Not, term-Bin}
use Rattle.cov_ast.specs.Plain.{plain}
use Rattle.cov_ast.specs.View as view
use Rattle.cov_ast.specs.declared.refusal.Detail.TheVariants.{One}
use Rattle.cov_ast.specs.declared.refusal.Rule.TheVariants.{V1}
use Rattle.mode_state.specs.Sets.{may_read}
use Rattle.typing_law.specs.ThreadObligations.{of_var}
use Rattle.typing_rules.proofs.GuardLaws.{at_var, at_both, at_first, same_test}
use Rattle.typing_rules.proofs.evaluation.+check_each_read.Goals as goal

pub returns-in-Var : goal.returns-in-Var
returns-in-Var t c held modes =
    let vars = c.args.p.now.vars in
    let p = plain (view.program c.args.p.now) in
    let site = c.args.site in
    let x = c.in-Var.x in
    let below = rw (c.in-Var.is, term-Var) at c.requires in
    let inside : x < length p.vars = omega (arith, length-map vars view.var) in
    at_var (of_var p site.thread site.place V1 (may_read p site.thread held)) (term c.args.e.now) x c.require_at.result
    (ap term c.in-Var.is ∙ term-Var x)
    (same_test site.thread site.place V1 _ _ c.may_read.result (may_read p site.thread held x) c.require_at.result (ap One c.var_name.ensures)
    (c.may_read.ensures p site.thread held modes inside) c.require_at.ensures)

pub returns-in-Not : goal.returns-in-Not
returns-in-Not t c held modes =
    rw (c.in-Not.is, term-Not, ← c.deref.ensures) (c.check_each_read.ensures held modes)

pub returns-in-Ok : goal.returns-in-Ok
returns-in-Ok t c held modes =
    let p = plain (view.program c.args.p.now) in
    let site = c.args.site in
    let op = c.in-Bin.field-0 in
    let a = term c.deref-in-Bin.result.now in
    let b = term c.deref-in-Ok.result.now in
    at_both (of_var p site.thread site.place V1 (may_read p site.thread held)) (term c.args.e.now) a b op
    (ap term c.in-Bin.is ∙ term-Bin op c.in-Bin.a c.in-Bin.b ∙ (λ i. bin op (term (sym c.deref-in-Bin.ensures i)) (term (sym c.deref-in-Ok.ensures i))))
    c.check_each_read-in-Ok.result (c.in-Ok.ensures held modes) (c.check_each_read-in-Ok.ensures held modes)

pub returns-in-Err : goal.returns-in-Err
returns-in-Err t c held modes =
    let p = plain (view.program c.args.p.now) in
    let site = c.args.site in
    let op = c.in-Bin.field-0 in
    let a = term c.deref-in-Bin.result.now in
    let b = term c.in-Bin.b.value in
    at_first (of_var p site.thread site.place V1 (may_read p site.thread held)) (term c.args.e.now) a b op
    (ap term c.in-Bin.is ∙ term-Bin op c.in-Bin.a c.in-Bin.b ∙ ap (λ d. bin op (term d) b) (sym c.deref-in-Bin.ensures))
    c.in-Err.fault (c.in-Err.ensures held modes)
