use Rattle.std.proofs.Common.{◌≡◌, ◌++◌, drop, map, flat_map}
use Rattle.cov_ast.specs.View as view
use Rattle.cov_print.specs.Spelling as spec
use Rattle.cov_print.proofs.program.add_locks.Given as goal

-- the lines that are written, and those of what is left, are all of them
abbrev pub invariant-loop-l : goal.invariant-loop-l
invariant-loop-l l =
    l.out ++ flat_map (spec.lock_line l.names) (map view.lock (drop l.l-index l.locks)) ≡ l.fn.out ++ flat_map (spec.lock_line l.names) (map view.lock l.locks)
