use Rattle.std.proofs.Common.{◌≡◌, ◌++◌, drop, map}
use Rattle.cov_ast.specs.Plain.{bare_thread}
use Rattle.cov_ast.specs.View as view
use Rattle.cov_ast.proofs.bare.plain_threads.Given as goal

abbrev pub invariant-loop-thread : goal.invariant-loop-thread
invariant-loop-thread l = map view.thread l.bare ++ map bare_thread (map view.thread (drop l.thread-index l.threads)) ≡ map bare_thread (map view.thread l.threads)
