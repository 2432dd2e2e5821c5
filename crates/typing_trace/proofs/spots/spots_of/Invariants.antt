use Rattle.std.proofs.Common.{◌≡◌, ◌++◌, drop, map}
use Rattle.cov_ast.specs.View as view
use Rattle.typing_trace.specs.Spots as spec
use Rattle.typing_trace.proofs.spots.spots_of.Given as goal

-- those so far, and those of the threads that are left, are all of them
abbrev pub invariant-loop-t : goal.invariant-loop-t
invariant-loop-t l = l.spots ++ spec.spots_of l.span l.t (map view.thread (drop l.t l.threads)) ≡ spec.spots_of l.span 0 (map view.thread l.threads)
