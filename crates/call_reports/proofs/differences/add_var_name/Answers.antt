use Rattle.std.proofs.Common.{◌++◌, length, refl, sym, ap, ◌∙◌}
use Rattle.std.proofs.lemmas.Option.{slice_get_read}
use Rattle.std.proofs.lemmas.Result.{on_ok_weaker}
use Rattle.cov_ast.specs.Syntax.{Var}
use Rattle.cov_ast.specs.View as view
use Rattle.call_reports.proofs.ReportLaws.{declared_name}
use Rattle.call_reports.proofs.differences.add_var_name.Goals as goal

pub returns-in-Some : goal.returns-in-Some
returns-in-Some c =
    let vars = c.args.vars.now in
    let found = c.in-Some.var.now in
    let lookup = c.in-Some.ensures.lookup in
    let at = slice_get_read vars (length vars) c.args.x found refl lookup.3.0 lookup.1 in
    on_ok_weaker c.extend_from_slice.result
    (λ h. h ∙ ap (λ name. c.args.text.now ++ name) (c.text.ensures.text ∙ sym (declared_name view.var (λ (x : Var). x.name) vars c.args.x found at)))
    c.extend_from_slice.ensures.ok
