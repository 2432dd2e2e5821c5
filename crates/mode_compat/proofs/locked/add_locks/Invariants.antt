use Rattle.std.proofs.Common.{◌≡◌, drop, map}
use Rattle.cov_ast.specs.View as view
use Rattle.mode_compat.specs.Inside.{with_locks}
use Rattle.mode_compat.proofs.locked.add_locks.Given as goal

abbrev pub invariant-loop-lock : goal.invariant-loop-lock
invariant-loop-lock l = with_locks l.locked (map view.lock (drop l.lock-index l.p.locks)) ≡ with_locks l.fn.locked (map view.lock l.p.locks)
