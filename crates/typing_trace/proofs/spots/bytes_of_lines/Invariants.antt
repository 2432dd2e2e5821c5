use Rattle.std.proofs.Common.{◌≡◌, ◌+◌, drop}
use Rattle.typing_trace.specs.Spots as spec
use Rattle.typing_trace.proofs.spots.bytes_of_lines.Given as goal

-- the bytes so far, and those of the lines that are left, are those of all
abbrev pub invariant-loop-i : goal.invariant-loop-i
invariant-loop-i l = l.i + spec.bytes_of_lines l.left (drop l.i l.bytes) ≡ spec.bytes_of_lines l.count l.bytes
