use Rattle.std.proofs.Common.{◌≡◌}
use Rattle.std.proofs.lemmas.Result.{IfOk-weaker}
use Rattle.call_reports.specs.AnswerViews.{seen}
use Rattle.cov_ast.specs.View as view
use Rattle.call_run.specs.Refutes.{RefutesWith, reply_to_trials}
use Rattle.call_run.proofs.trials.try_program.Goals as goal

pub returns : goal.returns
returns c =
    let p = view.program c.args.program.now in
    let shown = c.in_ok-shown.shown in
    IfOk-weaker c.told.result (λ answer. seen answer ≡ reply_to_trials p c.args.trials shown.found) (λ answer. RefutesWith p c.args.trials (seen answer))
    (λ answer is. record { found = shown.found; first = c.in_ok-shown.ensures.found; is = is }) c.told.ensures
