use Rattle.std.proofs.Common.{◌≡◌, ◌++◌, drop, map}
use Rattle.cov_ast.specs.View as view
use Rattle.tree_copies.proofs.texts.copy_threads.Given as goal

abbrev pub invariant-loop-thread : goal.invariant-loop-thread
invariant-loop-thread l = map view.thread l.copies ++ map view.thread (drop l.thread-index l.threads) ≡ map view.thread l.threads
