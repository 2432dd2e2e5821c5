use Rattle.std.proofs.Common.{ℕ, List}
use Rattle.risc_machine.specs.Faults.{thread_names}
use Rattle.object_code.specs.Inside.Known.{AreKnown}
use Rattle.object_code.proofs.KnownNames.{IsPassed}
use Rattle.object_code.proofs.repeated.add_threads.Given as goal

-- the names so far are known, and none was found
abbrev pub invariant-loop-thread : goal.invariant-loop-thread
invariant-loop-thread l = (before : List (List ℕ)) → AreKnown l.fn.known before → IsPassed l.known before (thread_names l.threads) l.thread-index
