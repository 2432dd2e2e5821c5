use Rattle.std.proofs.Common.{◌≡◌, ◌++◌, take, drop}
use Rattle.regalloc.specs.Plan.{stored}
use Rattle.regalloc.proofs.plan.Plan.stored.Given as goal

abbrev pub invariant-loop-r : goal.invariant-loop-r
invariant-loop-r l = l.self-inside.kept ≡ stored (take l.r l.initial.self-inside.kept) l.x ++ drop l.r l.initial.self-inside.kept
