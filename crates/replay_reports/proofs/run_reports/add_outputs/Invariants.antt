use Rattle.std.proofs.Common.{◌≡◌, ◌++◌, drop, flat_map}
use Rattle.replay_reports.specs.RunReports as spec
use Rattle.replay_reports.proofs.run_reports.add_outputs.Given as goal

-- the lines that are written, and those of what is left, are all of them
abbrev pub invariant-loop-word : goal.invariant-loop-word
invariant-loop-word l = l.text ++ flat_map spec.output_line (drop l.word-index l.said) ≡ l.fn.text ++ flat_map spec.output_line l.said
