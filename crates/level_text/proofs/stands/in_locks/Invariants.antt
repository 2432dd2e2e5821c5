use Rattle.std.proofs.Common.{◌≡◌, drop, map}
use Rattle.std.specs.List.{list_any}
use Rattle.cov_ast.specs.View as view
use Rattle.level_text.specs.TextFaults.{in_lock}
use Rattle.level_text.proofs.stands.in_locks.Given as goal

abbrev pub invariant-loop-lock : goal.invariant-loop-lock
invariant-loop-lock l = list_any (in_lock l.m) (map view.lock (drop l.lock-index l.locks)) ≡ list_any (in_lock l.m) (map view.lock l.locks)
