use Rattle.std.proofs.Common.{◌≡◌, ◌++◌, drop, map, flat_map}
use Rattle.cov_ast.specs.View as view
use Rattle.cov_print.specs.Spelling as spec
use Rattle.cov_print.proofs.program.add_threads.Given as goal

-- the lines that are written, and those of what is left, are all of them
abbrev pub invariant-loop-t : goal.invariant-loop-t
invariant-loop-t l =
    l.out ++ flat_map (spec.thread_lines l.names) (map view.thread (drop l.t-index l.threads)) ≡ l.fn.out ++ flat_map (spec.thread_lines l.names) (map view.thread l.threads)
