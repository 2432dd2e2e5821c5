use Rattle.std.proofs.Common.{◌≡◌, ◌∙◌, sym, ap, length}
use Rattle.cov_expr.specs.View.{term}
use Rattle.cov_ast.specs.Plain.{plain, class_term}
use Rattle.cov_ast.specs.View as view
use Rattle.cov_ast.specs.Declarations.{class_of}
use Rattle.cov_ast.proofs.ObligationLaws.{marked_found, outside_below, refused_at}
use Rattle.cov_ast.proofs.WellFormedLaws.{class_at}
use Rattle.cov_ast.specs.Tables.{first_outside}
use Rattle.cov_expr.specs.Trees.{occurrences}
use Rattle.mode_compat.specs.Inside.{kept_obligation}
use Rattle.mode_compat.proofs.controls.check_controls_of.Goals as goal

pub var_name-requires-in-Some : goal.var_name-requires-in-Some
var_name-requires-in-Some c =
    let p = view.program c.args.p.now in
    let same : class_of (plain p) c.args.x ≡ term c.in-When.e = ap class_term (sym c.class_of.ensures) ∙ ap (λ k. class_term (view.class k)) c.in-When.is in
    outside_below (length c.args.p.now.vars) c.args.kept.now (class_of (plain p) c.args.x) c.in-Some.c
    (class_at c.args.p.now c.requires.formed c.args.x c.requires.range)
    (c.in-Some.ensures ∙ ap (λ e. first_outside c.args.kept.now (occurrences e)) (sym same))

pub returns-in-None : goal.returns-in-None
returns-in-None c =
    let p = view.program c.args.p.now in
    let same : class_of (plain p) c.args.x ≡ term c.in-When.e = ap class_term (sym c.class_of.ensures) ∙ ap (λ k. class_term (view.class k)) c.in-When.is in
    marked_found c.args.kept.now (λ y. (kept_obligation p c.args.rule c.args.place c.args.kept.now c.args.x y).refusal) (class_of (plain p) c.args.x) (term c.in-When.e) same
    ∙ sym (ap (refused_at (λ y. (kept_obligation p c.args.rule c.args.place c.args.kept.now c.args.x y).refusal)) c.in-None.ensures)

pub returns-in-Some : goal.returns-in-Some
returns-in-Some c =
    let p = view.program c.args.p.now in
    let same : class_of (plain p) c.args.x ≡ term c.in-When.e = ap class_term (sym c.class_of.ensures) ∙ ap (λ k. class_term (view.class k)) c.in-When.is in
    rw (c.refused.ensures, c.var_name.ensures, c.var_name-in-Some.ensures)
    (marked_found c.args.kept.now (λ y. (kept_obligation p c.args.rule c.args.place c.args.kept.now c.args.x y).refusal) (class_of (plain p) c.args.x) (term c.in-When.e) same
    ∙ sym (ap (refused_at (λ y. (kept_obligation p c.args.rule c.args.place c.args.kept.now c.args.x y).refusal)) c.in-Some.ensures))
