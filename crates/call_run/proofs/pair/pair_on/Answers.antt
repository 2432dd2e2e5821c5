use Rattle.std.proofs.Common.{subst}
use Rattle.call_inputs.specs.Rejections.{UnlessRejected}
use Rattle.call_judge.specs.Starts.{unfit_by, unfit_starts}
use Rattle.call_reports.specs.AnswerViews.{seen}
use Rattle.call_run.specs.Pairs.{RunsFit}
use Rattle.cov_ast.specs.Plain.{plain}
use Rattle.cov_ast.specs.View as view
use Rattle.flow_model.specs.FirstDifference.{first_bad_start}
use Rattle.policy_class.specs.Resolved.{resolved}
use Rattle.call_run.proofs.PairLaws.{program_pairs}
use Rattle.call_run.proofs.RunLaws.{declared_replied, is_run_of}
use Rattle.call_run.proofs.pair.pair_on.Goals as goal

pub returns : goal.returns
returns c =
    let p = view.parsed c.args.input.parsed in
    let program = view.program c.in_ok-program.program in
    let left = c.args.input.left in
    let right = c.args.input.right in
    let schedule = c.args.input.entries in
    let reply = seen c.in_ok-answer.answer in
    declared_replied p (UnlessRejected (unfit_starts p left right) (RunsFit (resolved p) left right schedule)) program reply c.in_ok-program.ensures
    (program_pairs p program left right schedule reply c.in_ok-program.ensures.is
    (subst (λ k. UnlessRejected (unfit_by program (first_bad_start (plain program) left right)) (RunsFit program left right k) reply) c.as_slice.ensures
    c.in_ok-answer.ensures))

pub run_both-requires-clause-left : goal.run_both-requires-clause-left
run_both-requires-clause-left c =
    let i = c.args.input in
    is_run_of i.parsed c.in_ok-program.program c.in_ok-program.ensures.is i.left c.as_slice.result.now i.entries c.as_slice.ensures
    c.requires.left c.requires.threads c.requires.few

pub run_both-requires-clause-right : goal.run_both-requires-clause-right
run_both-requires-clause-right c =
    let i = c.args.input in
    is_run_of i.parsed c.in_ok-program.program c.in_ok-program.ensures.is i.right c.as_slice.result.now i.entries c.as_slice.ensures
    c.requires.right c.requires.threads c.requires.few
