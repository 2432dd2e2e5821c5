use Rattle.std.proofs.Common.{◌≡◌, Some, map, ◌∙◌, subst}
use Rattle.cov_ast.specs.View as view
use Rattle.schedule_replay.specs.Json.{value_of}
use Rattle.schedule_replay.specs.Starts as m
use Rattle.replay_inputs.specs.Inputs.{declaration_of, start_shown}
use Rattle.call_reports.specs.AnswerViews.{Stops}
use Rattle.call_reports.specs.Replies.{malformed}
use Rattle.call_reports.specs.declared.answers.Fault.{Fault}
use Rattle.replay_inputs.proofs.InputLaws.{given_unread, start_fault_said, same_start, start_is_memory}
use Rattle.replay_inputs.proofs.inputs.memory_of.Goals as goal

pub returns-in-Ok-clause-read : goal.returns-in-Ok-clause-read
returns-in-Ok-clause-read c = same_start c.args.parsed.now.vars (value_of c.args.bytes.now) ∙ c.in-Ok.ensures

pub returns-in-Err-clause-read : goal.returns-in-Err-clause-read
returns-in-Err-clause-read c =
    let p = view.parsed c.args.parsed.now in
    let read = c.args.bytes.now in
    given_unread (λ bytes. m.start_of (map declaration_of p.vars) (value_of bytes)) start_shown c.args.name.now read c.in-Err.fault c.unread.result
    (λ fault e. same_start c.args.parsed.now.vars (value_of read) ∙ start_fault_said c.in-Err.fault _ c.in-Err.ensures fault e)
    (subst (λ o. Stops (λ reply. (fault : Fault) × (o ≡ Some fault) × (reply ≡ malformed c.args.name.now fault)) c.unread.result) c.start_fault.ensures c.unread.ensures)

pub returns-in-Ok-clause-fits : goal.returns-in-Ok-clause-fits
returns-in-Ok-clause-fits c = start_is_memory c.args.parsed.now.vars (value_of c.args.bytes.now) c.in-Ok.memory c.in-Ok.ensures
