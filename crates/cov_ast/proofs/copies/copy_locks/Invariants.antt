use Rattle.std.proofs.Common.{◌≡◌, ◌++◌, drop, map}
use Rattle.cov_ast.specs.View as view
use Rattle.cov_ast.proofs.copies.copy_locks.Given as goal

abbrev pub invariant-loop-lock : goal.invariant-loop-lock
invariant-loop-lock l = map view.lock l.copies ++ map view.lock (drop l.lock-index l.locks) ≡ map view.lock l.locks
