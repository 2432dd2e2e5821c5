use Rattle.std.proofs.Common.{◌≡◌, ◌++◌, flat_map, length, take, All}
use Rattle.object_code.specs.Inside.Given.{IsOfWords}
use Rattle.object_code.specs.Object.{four, thread}
use Rattle.object_code.proofs.bytes.add_threads.Given as goal

-- the threads so far
abbrev pub invariant-loop-thread : goal.invariant-loop-thread
invariant-loop-thread l = record {
  bytes : l.out ≡ l.fn.out ++ (four (length l.threads) ++ flat_map thread (take l.thread-index l.threads));
  words : All IsOfWords (take l.thread-index l.threads);
}
