use Rattle.std.proofs.Common.{◌≡◌, drop}
use Rattle.serde_json.specs.View.{members_view}
use Rattle.schedule_replay.specs.Json.{prefixed}
use Rattle.schedule_replay.specs.Starts.{words_of}
use Rattle.schedule_replay.proofs.start.read_words.Given as goal

abbrev pub invariant-loop-var : goal.invariant-loop-var
invariant-loop-var l = prefixed l.words (words_of (members_view l.members.entries) (drop l.var-index l.vars)) ≡ words_of (members_view l.members.entries) l.vars
