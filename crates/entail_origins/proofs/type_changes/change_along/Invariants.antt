use Rattle.std.proofs.Common.{◌≡◌, Option, drop, map}
use Rattle.point_law.specs.Point.{Point}
use Rattle.statement_paths.specs.Paths as paths
use Rattle.typing_points.specs.Traces.{AreInRange, KeepsAny, plain_of}
use Rattle.entail_origins.specs.TypeChanges as spec
use Rattle.entail_origins.proofs.type_changes.change_along.Given as goal

-- what is left is in range, and leads from the point that was reached and the change so far to that of all
abbrev pub invariant-loop-index : goal.invariant-loop-index
invariant-loop-index l =
    let rest = map paths.step (drop l.index l.steps) in
    let p = plain_of l.trace in
    AreInRange l.trace rest
    × ((a : Option Point) × (KeepsAny p l.trace.thread a l.here
    × (spec.change_after_steps p l.trace.thread l.controls l.locks l.z l.index a rest l.later
    ≡ spec.change_along p l.trace.thread l.controls l.locks l.z (map paths.step l.steps))))
