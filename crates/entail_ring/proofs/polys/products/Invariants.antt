use Rattle.std.proofs.Common.{◌≡◌, ◌++◌, map, drop}
use Rattle.entail_ring.specs.Inside.{reduced}
use Rattle.entail_ring.specs.Polys as spec
use Rattle.entail_ring.proofs.polys.products.Given as goal

-- what is made, and what is still to be made
abbrev pub invariant-loop-t : goal.invariant-loop-t
invariant-loop-t l = l.made.items ++ map reduced (spec.products (drop l.t-index l.p) l.q) ≡ map reduced (spec.products l.p l.q)
