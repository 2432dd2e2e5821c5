use Rattle.std.proofs.Common.{◌≡◌, ◌++◌, drop, map, flat_map}
use Rattle.cov_ast.specs.View as view
use Rattle.explain.specs.Unused as spec
use Rattle.explain.proofs.unused.of_declarations.Given as goal

abbrev pub invariant-loop-lock : goal.invariant-loop-lock
invariant-loop-lock l = l.found ++ flat_map spec.of_lock (map view.lock (drop l.lock-index l.locks)) ≡ l.initial.found ++ flat_map spec.of_lock (map view.lock l.locks)
