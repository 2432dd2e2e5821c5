use Rattle.std.proofs.Common.{◌≡◌, slice_get, drop}
use Rattle.regalloc.specs.Plan.{free_among, below_seven, part}
use Rattle.regalloc.proofs.plan.Plan.part.Given as goal

abbrev pub invariant-loop-r : goal.invariant-loop-r
invariant-loop-r l = part l.self-inside.kept l.depth ≡ slice_get (free_among l.self-inside.kept (drop l.r below_seven)) l.left
