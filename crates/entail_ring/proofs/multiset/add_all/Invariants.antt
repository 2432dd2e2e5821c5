use Rattle.std.proofs.Common.{◌≡◌, ◌++◌, take}
use Rattle.entail_ring.proofs.multiset.add_all.Given as goal

abbrev pub invariant-loop-number : goal.invariant-loop-number
invariant-loop-number l = l.made ≡ l.initial.made ++ take l.number-index l.numbers
