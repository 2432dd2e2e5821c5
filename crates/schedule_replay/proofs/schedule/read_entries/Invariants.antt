use Rattle.std.proofs.Common.{◌≡◌, drop}
use Rattle.serde_json.specs.View.{items_view}
use Rattle.schedule_replay.specs.Json.{prefixed}
use Rattle.schedule_replay.specs.Schedules.{entries_from}
use Rattle.schedule_replay.proofs.schedule.read_entries.Given as goal

abbrev pub invariant-loop-i : goal.invariant-loop-i
invariant-loop-i l = prefixed l.entries (entries_from l.threads l.i (items_view (drop l.i l.items))) ≡ entries_from l.threads 0 (items_view l.items)
