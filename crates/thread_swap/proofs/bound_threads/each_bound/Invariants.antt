use Rattle.std.proofs.Common.{◌≡◌, drop, map, take}
use Rattle.cov_ast.specs.View as view
use Rattle.thread_swap.specs.Inside.Over.{AreBound}
use Rattle.thread_swap.proofs.bound_threads.each_bound.Given as goal

-- the threads that are left, and those before by the ids of the program
abbrev pub invariant-loop-t : goal.invariant-loop-t
invariant-loop-t l = record {
  left : l.rest ≡ drop l.t l.fn.threads;
  bound : AreBound (view.program l.p) (view.parsed l.names) (take l.t (map view.thread l.fn.threads)) (map view.thread l.made);
}
