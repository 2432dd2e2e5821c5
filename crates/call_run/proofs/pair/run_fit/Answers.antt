use Rattle.std.proofs.Common.{◌≡◌, inr, subst}
use Rattle.std.proofs.lemmas.Result.{IfOk-weaker}
use Rattle.call_reports.specs.AnswerViews.{seen}
use Rattle.call_reports.specs.Differences.{differ_text}
use Rattle.call_reports.specs.Replies.{differ}
use Rattle.call_run.specs.Pairs.{RunsFit}
use Rattle.cov_ast.specs.Plain.{plain}
use Rattle.cov_ast.specs.View as view
use Rattle.flow_model.specs.Source.{begin}
use Rattle.schedule_replay.specs.Replays.{IsFirstStepApart}
use Rattle.source_machine.specs.SourceMachine.{run_of}
use Rattle.call_run.proofs.pair.run_fit.Goals as goal

pub returns-in-Some : goal.returns-in-Some
returns-in-Some c =
    let p = view.program c.args.program.now in
    let left = c.args.left in
    let right = c.args.right in
    let schedule = c.args.schedule.now in
    let found = c.in-Some.found in
    IfOk-weaker c.told_apart.result (λ answer. seen answer ≡ differ found.step (differ_text p found.differ)) (λ answer. RunsFit p left right schedule (seen answer))
    (λ answer is. inr (record {
      found = found;
      first = subst (λ r. IsFirstStepApart (plain p) r (begin (plain p) right) schedule found) c.in_ok-first.ensures.run
          (subst (λ q. IsFirstStepApart (plain p) (run_of c.in_ok-first.first) q schedule found) c.in_ok-second.ensures.run c.in-Some.ensures.found);
      is = is;
    })) c.told_apart.ensures
