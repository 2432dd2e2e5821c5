use Rattle.std.proofs.Common.{◌≡◌, ◌++◌, flat_map, take, All}
use Rattle.code_text.specs.Inside.SpelledLines.{IsOfWords}
use Rattle.code_text.specs.Listing.{spelled, thread_rows}
use Rattle.code_text.proofs.text.add_threads.Given as goal

-- the rows so far
abbrev pub invariant-loop-thread : goal.invariant-loop-thread
invariant-loop-thread l = record {
  text : l.out ≡ l.initial.out ++ flat_map spelled (flat_map (thread_rows l.parts.vars l.parts.locks) (take l.thread-index l.threads));
  words : All IsOfWords (take l.thread-index l.threads);
}
