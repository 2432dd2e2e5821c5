use Rattle.std.proofs.Common.{◌≡◌, ◌++◌, map, drop}
use Rattle.entail_ring.specs.Inside.{reduced}
use Rattle.entail_ring.specs.Polys as spec
use Rattle.entail_ring.proofs.polys.add_row.Given as goal

-- what is added, and what is still to be added
abbrev pub invariant-loop-u : goal.invariant-loop-u
invariant-loop-u l = l.made.items ++ map reduced (spec.row l.t (drop l.u-index l.q)) ≡ l.initial.made.items ++ map reduced (spec.row l.t l.q)
