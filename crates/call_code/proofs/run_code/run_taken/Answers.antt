use Rattle.std.proofs.Common.{◌≡◌, Err, sym, subst, rules}
use Rattle.cov_ast.specs.View as view
use Rattle.cov_expr.specs.Words.{IsMemory, IsSchedule}
use Rattle.call_code.proofs.CodeLaws.{by_code, gets_rejected}
use Rattle.call_code.specs.CodeRuns.{RunsCode, report_on_code}
use Rattle.replay_inputs.specs.InputViews.{IsRunOf}
use Rattle.replay_inputs.specs.InputViews as inputs
use Rattle.call_inputs.specs.Rejections.{UnlessRejected}
use Rattle.call_judge.specs.Check.{rejection}
use Rattle.call_reports.specs.AnswerViews.{Gets}
use Rattle.call_reports.specs.Replies.{ran}
use Rattle.call_code.proofs.run_code.run_taken.Goals as goal

pub returns-in_err-coded : goal.returns-in_err-coded
returns-in_err-coded c =
    let i = inputs.run_input c.args.input in
    let same : c.from_residual.result ≡ Err c.in_err-coded.field-0.0 = search rules in
    subst (Gets (UnlessRejected (rejection i.program) (RunsCode i))) (sym same)
    (gets_rejected (rejection i.program) (RunsCode i) c.in_err-coded.field-0.0 c.in_err-coded.ensures.coded)

pub returns : goal.returns
returns c =
    let i = inputs.run_input c.args.input in
    let made = c.in_ok-coded.coded in
    by_code i.program made c.in_ok-coded.ensures.coded (λ q d reply. reply ≡ ran (report_on_code q d i.memory i.schedule)) c.run_coded.result
    (subst (λ k. Gets (λ reply. reply ≡ ran (report_on_code (view.program made.program) made.code i.memory k)) c.run_coded.result) c.as_slice.ensures
    c.run_coded.ensures)

pub run_coded-requires-clause-run : goal.run_coded-requires-clause-run
run_coded-requires-clause-run c =
    let i = c.args.input in
    let made = c.in_ok-coded.ensures in
    subst (IsRunOf c.in_ok-coded.coded.program i.memory) (sym c.as_slice.ensures) (record {
      fits = subst (λ n. IsMemory n i.memory) (sym made.variables) c.requires.memory;
      threads = subst (λ n. IsSchedule n i.entries) (sym made.threads) c.requires.threads;
      few = c.requires.few;
    })
