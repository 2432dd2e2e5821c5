use Rattle.std.proofs.Common.{◌≡◌, drop}
use Rattle.regalloc.specs.Plan.{held_from, held}
use Rattle.regalloc.proofs.plan.Plan.held.Given as goal

abbrev pub invariant-loop-r : goal.invariant-loop-r
invariant-loop-r l = held_from l.r (drop l.r l.self-inside.kept) l.x ≡ held l.self-inside.kept l.x
