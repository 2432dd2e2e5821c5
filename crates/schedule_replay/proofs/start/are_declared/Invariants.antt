use Rattle.std.proofs.Common.{◌≡◌}
use Rattle.serde_json.specs.View.{members_view}
use Rattle.schedule_replay.specs.Starts.{are_declared}
use Rattle.schedule_replay.proofs.start.are_declared.Given as goal

abbrev pub invariant-loop-key : goal.invariant-loop-key
invariant-loop-key l = are_declared l.vars (members_view l.key-iterator) ≡ are_declared l.vars (members_view l.members.entries)
