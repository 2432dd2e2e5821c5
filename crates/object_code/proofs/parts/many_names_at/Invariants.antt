use Rattle.std.proofs.Common.{◌≡◌, ◌-◌}
use Rattle.object_code.specs.Inside.ObjectReading.{many_at, name_at}
use Rattle.object_code.proofs.Loops.{with_front}
use Rattle.object_code.proofs.parts.many_names_at.Given as goal

-- the names so far, and what is still read
abbrev pub invariant-loop : goal.invariant-loop
invariant-loop l = with_front l.names (many_at name_at (l.count - l.counter) l.rest) ≡ many_at name_at l.count l.bytes
