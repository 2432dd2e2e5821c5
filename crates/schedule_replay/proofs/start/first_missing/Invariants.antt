use Rattle.std.proofs.Common.{◌≡◌, drop}
use Rattle.serde_json.specs.View.{members_view}
use Rattle.schedule_replay.specs.Starts.{first_missing}
use Rattle.schedule_replay.proofs.start.first_missing.Given as goal

abbrev pub invariant-loop-var : goal.invariant-loop-var
invariant-loop-var l = first_missing (members_view l.members.entries) (drop l.var-index l.vars) ≡ first_missing (members_view l.members.entries) l.vars
