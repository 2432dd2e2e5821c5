use Rattle.std.proofs.Common.{◌≡◌, drop}
use Rattle.entail_counter.specs.Candidates.{all_added}
use Rattle.entail_counter.proofs.candidates.candidates.Given as goal

-- what is left is added to what is there
abbrev pub invariant-loop-v : goal.invariant-loop-v
invariant-loop-v l = all_added l.found (drop l.v-index l.more) ≡ all_added l.initial.found l.more
