use Rattle.std.proofs.Common.{◌≡◌, ◌-◌}
use Rattle.object_code.specs.Inside.ObjectReading.{many_at, thread_at}
use Rattle.object_code.proofs.Loops.{with_front}
use Rattle.object_code.proofs.parts.many_threads_at.Given as goal

-- the threads so far, and what is still read
abbrev pub invariant-loop : goal.invariant-loop
invariant-loop l = with_front l.threads (many_at (thread_at l.declared) (l.count - l.counter) l.rest) ≡ many_at (thread_at l.declared) l.count l.bytes
