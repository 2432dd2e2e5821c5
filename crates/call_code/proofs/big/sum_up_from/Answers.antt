use Rattle.std.proofs.Common.{◌≡◌, ℕ, List, Option, Err, sym, subst, rules}
use Rattle.cov_ast.specs.Plain.{plain}
use Rattle.cov_ast.specs.View as view
use Rattle.flow_model.specs.FirstDifference.{first_bad_start}
use Rattle.call_code.proofs.CodeLaws.{gets_rejected}
use Rattle.call_code.specs.BigReplies.{AllRunTogether}
use Rattle.call_code.specs.Inside.{Rejects}
use Rattle.call_inputs.specs.Rejections.{Rejection, UnlessRejected}
use Rattle.call_judge.specs.Starts.{unfit_by}
use Rattle.call_reports.specs.AnswerViews.{Gets, Stops}
use Rattle.call_reports.specs.Replies.{Reply}
use Rattle.call_code.proofs.big.sum_up_from.Goals as goal

pub returns-in_err-check_starts : goal.returns-in_err-check_starts
returns-in_err-check_starts c =
    let a = c.args in
    let p = view.program a.coded.now.program in
    let m = a.memories.now in
    let tried : List ℕ → List ℕ → Option Rejection = λ l r. unfit_by p (first_bad_start (plain p) l r) in
    let runs : Reply → Type 0 = AllRunTogether a.rounds p a.coded.now.code m.left m.right a.schedule.now in
    let stop = c.in_err-check_starts.field-0.0 in
    let same : c.from_residual.result ≡ Err c.in_err-check_starts.field-0.0 = search rules in
    subst (Gets (UnlessRejected (tried m.left m.right) runs)) (sym same)
    (gets_rejected (tried m.left m.right) runs stop
    (subst (λ l. Stops (Rejects (tried l m.right)) stop) c.as_slice.ensures
    (subst (λ r. Stops (Rejects (tried c.as_slice.result.now r)) stop) c.as_slice-2.ensures c.in_err-check_starts.ensures.rejection)))
