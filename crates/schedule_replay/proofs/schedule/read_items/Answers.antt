use Rattle.std.proofs.Common.{sym, subst, arith}
use Rattle.schedule_replay.specs.Schedules.{GivesSchedule}
use Rattle.schedule_replay.proofs.ReadLaws.{too_many, not_too_many}
use Rattle.schedule_replay.proofs.schedule.read_items.Goals as goal

pub returns-then-items-gt-MOST_ENTRIES : goal.returns-then-items-gt-MOST_ENTRIES
returns-then-items-gt-MOST_ENTRIES c = too_many c.args.threads c.args.items.now (omega arith)

pub returns : goal.returns
returns c = subst (GivesSchedule c.read_entries.result) (sym (not_too_many c.args.threads c.args.items.now (omega arith))) c.read_entries.ensures
