use Rattle.std.proofs.Common.{◌≡◌, ◌++◌, drop, map}
use Rattle.cov_ast.specs.View as view
use Rattle.typing_state.specs.KeptPoints.{AtPoint}
use Rattle.typing_points.specs.Traces.{plain_of}
use Rattle.typing_trace.specs.KnownLines.{type_lines}
use Rattle.typing_trace.proofs.known.add_types.Given as goal

-- the lines so far, and those of the variables that are left, are all of them
abbrev pub invariant-loop-x : goal.invariant-loop-x
invariant-loop-x l =
    AtPoint (plain_of l.trace) l.trace.thread l.point (λ a.
    l.text ++ type_lines l.names a.types l.x (map view.var (drop l.x l.vars)) ≡ l.fn.text ++ type_lines l.names a.types 0 (map view.var l.vars))
