use Rattle.std.proofs.Common.{◌≡◌, map, take}
use Rattle.entail_ring.proofs.join.in_order.Given as goal

abbrev pub invariant-loop-t : goal.invariant-loop-t
invariant-loop-t l = map (λ t. t.term.now) l.made.items ≡ take l.t-index l.terms
