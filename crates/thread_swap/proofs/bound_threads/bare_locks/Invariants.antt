use Rattle.std.proofs.Common.{◌≡◌, map, take}
use Rattle.cov_ast.specs.View as view
use Rattle.thread_swap.specs.Inside.Over.{bare_lock}
use Rattle.thread_swap.proofs.bound_threads.bare_locks.Given as goal

abbrev pub invariant-loop-lock : goal.invariant-loop-lock
invariant-loop-lock l = map view.lock l.made ≡ map bare_lock (map view.lock (take l.lock-index l.locks))
