use Rattle.std.proofs.Common.{◌≡◌, drop}
use Rattle.entail_counter.specs.Counterexamples.{are_words}
use Rattle.entail_counter.proofs.finder.have_words.Given as goal

-- those so far are
abbrev pub invariant-loop-b : goal.invariant-loop-b
invariant-loop-b l = are_words (drop l.b-index l.m) ≡ are_words l.m
