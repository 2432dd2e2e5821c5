use Rattle.std.proofs.Common.{◌≡◌, ◌++◌, drop, flat_map}
use Rattle.replay_reports.specs.TrialReports as spec
use Rattle.replay_reports.proofs.trial_reports.add_entries.Given as goal

-- the entries that are written, and what is left, are all of them
abbrev pub invariant-loop-t : goal.invariant-loop-t
invariant-loop-t l = l.text ++ flat_map spec.entry_text (drop l.t-index l.entries) ≡ l.fn.text ++ flat_map spec.entry_text l.entries
