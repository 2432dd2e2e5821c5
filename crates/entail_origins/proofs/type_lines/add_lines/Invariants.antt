use Rattle.std.proofs.Common.{◌≡◌, ◌++◌, drop, map}
use Rattle.statement_paths.specs.Paths as paths
use Rattle.typing_points.specs.Traces.{plain_of}
use Rattle.entail_origins.specs.TypeLines as spec
use Rattle.entail_origins.proofs.type_lines.add_lines.Given as goal

-- the lines so far, and as many as are left of those of the variables that are left, are all of them
abbrev pub invariant-loop-v : goal.invariant-loop-v
invariant-loop-v l =
    let p = plain_of l.trace in
    let steps = map paths.step l.steps in
    l.text ++ spec.lines_of p l.trace.thread l.names l.bytes steps l.left (drop l.v-index l.variables)
    ≡ l.fn.text ++ spec.lines_of p l.trace.thread l.names l.bytes steps l.most l.variables
