use Rattle.std.proofs.Common.{true≢false, sym, ◌∙◌}
use Rattle.serde_json.specs.View.{view}
use Rattle.schedule_replay.proofs.ReadLaws.{read_is, unread_is}
use Rattle.schedule_replay.proofs.values.read_value.Goals as goal

pub returns-in-Ok : goal.returns-in-Ok
returns-in-Ok c = read_is c.args.bytes.now (view c.in-Ok.value) c.in-Ok.ensures.ok.0 c.in-Ok.ensures.ok.1

pub returns-else-is_memory : goal.returns-else-is_memory
returns-else-is_memory c = unread_is c.args.bytes.now (c.in-Err.ensures.err (λ m. true≢false (sym (c.is_memory.ensures.1 m) ∙ c.if-is_memory.false)))
