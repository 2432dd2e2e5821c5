use Rattle.std.proofs.Common.{◌≡◌, map}
use Rattle.std.specs.List.{range_with_len}
use Rattle.watch.specs.TrialWords.{raw_word}
use Rattle.refute.proofs.inputs.first_memory.Given as goal

abbrev pub invariant-loop-x : goal.invariant-loop-x
invariant-loop-x g l = l.made ≡ map (raw_word l.i 1) (range_with_len 0 l.x)
