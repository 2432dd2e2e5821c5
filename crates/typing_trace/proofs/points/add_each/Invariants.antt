use Rattle.std.proofs.Common.{◌≡◌, ◌++◌, drop, flat_map}
use Rattle.cov_ast.specs.View as view
use Rattle.typing_trace.specs.PointLines.{spot_lines}
use Rattle.typing_trace.proofs.points.add_each.Given as goal

-- what is told so far, and of the rest, is what is told of all
abbrev pub invariant-loop-spot : goal.invariant-loop-spot
invariant-loop-spot l =
    l.text ++ flat_map (spot_lines (view.program l.p) l.bytes) (drop l.spot-index l.spots) ≡ l.fn.text ++ flat_map (spot_lines (view.program l.p) l.bytes) l.spots
