use Rattle.std.proofs.Common.{◌≡◌, Some, length, sym, ap, ◌∙◌, subst, rules}
use Rattle.std.proofs.lemmas.List.{length-map}
use Rattle.cov_ast.specs.View as view
use Rattle.cov_expr.specs.Words.{IsSchedule}
use Rattle.schedule_replay.specs.Json.{value_of}
use Rattle.schedule_replay.specs.Schedules as k
use Rattle.replay_inputs.specs.Inputs.{schedule_shown}
use Rattle.call_reports.specs.AnswerViews.{Stops}
use Rattle.call_reports.specs.Replies.{malformed}
use Rattle.call_reports.specs.declared.answers.Fault.{Fault}
use Rattle.replay_inputs.proofs.InputLaws.{given_unread, schedule_fault_said, schedule_fine}
use Rattle.replay_inputs.proofs.inputs.entries_of.Goals as goal

pub returns-in-Ok-clause-read : goal.returns-in-Ok-clause-read
returns-in-Ok-clause-read c =
    let read = c.args.bytes.now in
    let threads : c.len.result ≡ length c.args.parsed.now.threads = search rules in
    let counted : k.schedule_of (length (view.parsed c.args.parsed.now).threads) (value_of read) ≡ k.schedule_of c.len.result (value_of read) =
    ap (λ n. k.schedule_of n (value_of read)) (length-map c.args.parsed.now.threads view.thread ∙ sym threads) in
    counted ∙ c.in-Ok.ensures

pub returns-in-Err-clause-read : goal.returns-in-Err-clause-read
returns-in-Err-clause-read c =
    let p = view.parsed c.args.parsed.now in
    let read = c.args.bytes.now in
    let threads : c.len.result ≡ length c.args.parsed.now.threads = search rules in
    let counted : k.schedule_of (length (view.parsed c.args.parsed.now).threads) (value_of read) ≡ k.schedule_of c.len.result (value_of read) =
    ap (λ n. k.schedule_of n (value_of read)) (length-map c.args.parsed.now.threads view.thread ∙ sym threads) in
    given_unread (λ bytes. k.schedule_of (length p.threads) (value_of bytes)) schedule_shown c.args.name.now read c.in-Err.fault c.unread.result
    (λ fault e. counted ∙ schedule_fault_said c.in-Err.fault _ c.in-Err.ensures fault e)
    (subst (λ o. Stops (λ reply. (fault : Fault) × (o ≡ Some fault) × (reply ≡ malformed c.args.name.now fault)) c.unread.result) c.schedule_fault.ensures c.unread.ensures)

pub returns-in-Ok-clause-threads : goal.returns-in-Ok-clause-threads
returns-in-Ok-clause-threads c =
    let threads : c.len.result ≡ length c.args.parsed.now.threads = search rules in
    subst (λ n. IsSchedule n c.in-Ok.entries) threads (schedule_fine c.len.result (value_of c.args.bytes.now) c.in-Ok.entries c.in-Ok.ensures).threads_below

pub returns-in-Ok-clause-few : goal.returns-in-Ok-clause-few
returns-in-Ok-clause-few c = (schedule_fine c.len.result (value_of c.args.bytes.now) c.in-Ok.entries c.in-Ok.ensures).few
