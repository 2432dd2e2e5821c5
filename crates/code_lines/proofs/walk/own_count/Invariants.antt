use Rattle.std.proofs.Common.{◌≡◌, ◌+◌, drop}
use Rattle.code_lines.specs.CodeShares as spec
use Rattle.code_lines.proofs.walk.own_count.Given as goal

-- the lines so far make values
abbrev pub invariant-loop-i : goal.invariant-loop-i
invariant-loop-i l = l.i + spec.own_count (drop l.i l.lines) ≡ spec.own_count l.lines
