use Rattle.std.proofs.Common.{◌≡◌, ◌++◌, drop, flat_map}
use Rattle.call_verdicts.specs.Swap as spec
use Rattle.call_verdicts.proofs.swap_reports.lines_text.Given as goal

-- the lines that are written, and those of what is left, are all of them
abbrev pub invariant-loop-line : goal.invariant-loop-line
invariant-loop-line l = l.text ++ flat_map (spec.line_text l.names) (drop l.line-index l.lines) ≡ flat_map (spec.line_text l.names) l.lines
