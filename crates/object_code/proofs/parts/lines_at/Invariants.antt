use Rattle.std.proofs.Common.{◌≡◌, ◌-◌}
use Rattle.object_code.specs.Inside.ObjectReading.{many_at, line_at}
use Rattle.object_code.proofs.Loops.{with_front}
use Rattle.object_code.proofs.parts.lines_at.Given as goal

-- the lines so far, and what is still read
abbrev pub invariant-loop : goal.invariant-loop
invariant-loop l = with_front l.lines (many_at (line_at l.declared) (l.count - l.counter) l.rest) ≡ many_at (line_at l.declared) l.count l.bytes
