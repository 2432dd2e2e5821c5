use Rattle.std.proofs.Common.{◌≡◌, All, drop, length, map}
use Rattle.point_law.specs.Point.{Point}
use Rattle.statement_paths.specs.Paths.{step}
use Rattle.typing_state.specs.KeptPoints.{Keeps}
use Rattle.typing_points.specs.Traces.{plain_of}
use Rattle.typing_points.specs.PointsBehind.{IsStepInRange, behind_steps, point_behind}
use Rattle.typing_points.proofs.passing.Trace.point_behind.Given as goal

-- what is left is in range, and leads from the point that was reached to the same one
abbrev pub invariant-loop-next : goal.invariant-loop-next
invariant-loop-next l =
    let rest = map step (drop l.next-index l.steps) in
    All (IsStepInRange (length l.self.program.now.vars) (length l.self.program.now.locks)) rest
    × ((a : Point) × (Keeps (plain_of l.self) l.self.thread a l.here
    × (behind_steps (plain_of l.self) l.self.thread rest a ≡ point_behind (plain_of l.self) l.self.thread (map step l.steps))))
