use Rattle.std.proofs.Common.{◌≡◌, ◌+◌, ◌*◌, ◌^◌, ◌≤◌, drop}
use Rattle.entail_ring.specs.Inside as inside
use Rattle.entail_ring.proofs.ranked.rank.Given as goal

-- what the digits so far are, and what those behind them are
abbrev pub invariant-loop-x : goal.invariant-loop-x
invariant-loop-x l = record {
  fits : l.rank + 256 * l.unit ≤ 2 ^ 64;
  so_far : l.rank + inside.rank l.unit (drop l.x-index l.atoms) ≡ inside.rank (2 ^ 56) l.atoms;
}
