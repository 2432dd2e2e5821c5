use Rattle.std.proofs.Common.{subst}
use Rattle.call_reports.specs.AnswerViews.{seen}
use Rattle.cov_ast.specs.View as view
use Rattle.call_run.specs.Refutes.{Refutes, RefutesWith}
use Rattle.call_run.proofs.RunLaws.{declared_replied}
use Rattle.call_run.proofs.trials.refute_text.Goals as goal

pub returns : goal.returns
returns c =
    let p = view.parsed c.args.parsed in
    let program = view.program c.in_ok-program.program in
    let reply = seen c.in_ok-answer.answer in
    declared_replied p (Refutes c.args.trials p) program reply c.in_ok-program.ensures
    (subst (λ q. RefutesWith q c.args.trials reply) c.in_ok-program.ensures.is c.in_ok-answer.ensures)
