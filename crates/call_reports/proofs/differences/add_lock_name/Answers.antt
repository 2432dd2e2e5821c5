use Rattle.std.proofs.Common.{◌++◌, length, refl, sym, ap, ◌∙◌}
use Rattle.std.proofs.lemmas.Option.{slice_get_read}
use Rattle.std.proofs.lemmas.Result.{on_ok_weaker}
use Rattle.cov_ast.specs.Syntax.{Lock}
use Rattle.cov_ast.specs.View as view
use Rattle.call_reports.proofs.ReportLaws.{declared_name}
use Rattle.call_reports.proofs.differences.add_lock_name.Goals as goal

pub returns-in-Some : goal.returns-in-Some
returns-in-Some c =
    let locks = c.args.locks.now in
    let found = c.in-Some.lock.now in
    let lookup = c.in-Some.ensures.lookup in
    let at = slice_get_read locks (length locks) c.args.l found refl lookup.3.0 lookup.1 in
    on_ok_weaker c.extend_from_slice.result
    (λ h. h ∙ ap (λ name. c.args.text.now ++ name) (c.text.ensures.text ∙ sym (declared_name view.lock (λ (x : Lock). x.name) locks c.args.l found at)))
    c.extend_from_slice.ensures.ok
