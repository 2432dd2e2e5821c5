use Rattle.std.proofs.Common.{◌≡◌, drop, map}
use Rattle.cov_ast.specs.View as view
use Rattle.entail_origins.specs.LocksOver.{lock_over}
use Rattle.entail_origins.proofs.locks.lock_over.Given as goal

-- the first of what is left is the first of all
abbrev pub invariant-loop-lock : goal.invariant-loop-lock
invariant-loop-lock l = lock_over l.x (map view.lock (drop l.lock-index l.locks)) ≡ lock_over l.x (map view.lock l.locks)
