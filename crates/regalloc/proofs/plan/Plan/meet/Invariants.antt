use Rattle.std.proofs.Common.{◌≡◌, ◌++◌, take, drop}
use Rattle.regalloc.specs.Plan.{meet}
use Rattle.regalloc.proofs.plan.Plan.meet.Given as goal

abbrev pub invariant-loop-r : goal.invariant-loop-r
invariant-loop-r l = l.self-inside.kept ≡ meet (take l.r l.initial.self-inside.kept) (take l.r l.other-inside.kept) ++ drop l.r l.initial.self-inside.kept
