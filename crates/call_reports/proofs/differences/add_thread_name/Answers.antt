use Rattle.std.proofs.Common.{◌++◌, length, refl, sym, ap, ◌∙◌}
use Rattle.std.proofs.lemmas.Option.{slice_get_read}
use Rattle.std.proofs.lemmas.Result.{on_ok_weaker}
use Rattle.cov_ast.specs.Syntax.{Thread}
use Rattle.cov_ast.specs.View as view
use Rattle.call_reports.proofs.ReportLaws.{declared_name}
use Rattle.call_reports.proofs.differences.add_thread_name.Goals as goal

pub returns-in-Some : goal.returns-in-Some
returns-in-Some c =
    let threads = c.args.threads.now in
    let thread = c.in-Some.thread.now in
    let found = c.in-Some.ensures.lookup in
    let at = slice_get_read threads (length threads) c.args.t thread refl found.3.0 found.1 in
    on_ok_weaker c.extend_from_slice.result (λ h. h ∙ ap (λ name. c.args.text.now ++ name) (c.text.ensures.text ∙ sym (declared_name view.thread (λ (th : Thread). th.name) threads c.args.t thread at)))
    c.extend_from_slice.ensures.ok
