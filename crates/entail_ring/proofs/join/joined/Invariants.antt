use Rattle.std.proofs.Common.{◌≡◌, map, take}
use Rattle.entail_ring.specs.Polys.{joined}
use Rattle.entail_ring.proofs.join.joined.Given as goal

-- the terms so far are joined
abbrev pub invariant-loop-t : goal.invariant-loop-t
invariant-loop-t l = l.made.items ≡ joined (take l.t-index (map (λ t. t.term.now) l.t-items))
