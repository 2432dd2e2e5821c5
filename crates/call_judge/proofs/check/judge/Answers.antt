use Rattle.std.proofs.Common.{◌≡◌, Err, sym, subst, rules}
use Rattle.cov_ast.specs.View as view
use Rattle.call_judge.specs.Check.{Judges}
use Rattle.call_judge.specs.Inside.{IsRejected}
use Rattle.call_judge.proofs.CheckLaws.{program_judged, rejected_judged}
use Rattle.call_reports.specs.AnswerViews.{Gets}
use Rattle.call_reports.proofs.AnswerLaws.{stops_onward}
use Rattle.call_judge.proofs.check.judge.Goals as goal

pub returns-in_err-program : goal.returns-in_err-program
returns-in_err-program c =
    let p = view.parsed c.args.parsed in
    let same : c.from_residual.result ≡ Err c.in_err-program.field-0.0 = search rules in
    subst (Gets (Judges p)) (sym same)
    (stops_onward (IsRejected p) (Judges p) c.in_err-program.field-0.0 (λ reply rejects. rejected_judged p reply rejects) c.in_err-program.ensures.named)

pub returns : goal.returns
returns c =
    let named = c.in_ok-program.ensures.named in
    program_judged (view.parsed c.args.parsed) (view.program c.in_ok-program.program) named.is named.held c.judge_program.result c.judge_program.ensures
