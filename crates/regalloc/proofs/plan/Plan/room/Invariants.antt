use Rattle.std.proofs.Common.{◌≡◌, ◌≤◌}
use Rattle.regalloc.specs.Plan.{room_below, room}
use Rattle.regalloc.proofs.plan.Plan.room.Given as goal

abbrev pub invariant-loop-r : goal.invariant-loop-r
invariant-loop-r l = (room_below l.r l.self l.n ≡ room l.initial.self l.n) × (l.r ≤ 7)

abbrev pub decreases-loop-r : goal.decreases-loop-r
decreases-loop-r l = l.r
