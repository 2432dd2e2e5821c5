use Rattle.std.proofs.Common.{◌≡◌, map, drop}
use Rattle.cov_text.specs.Limits as spec
use Rattle.cov_read.specs.DeclViews as views
use Rattle.cov_parse.proofs.limits.in_locks.Given as goal

abbrev pub invariant-loop-lock : goal.invariant-loop-lock
invariant-loop-lock l = spec.sooner l.found (spec.least spec.in_lock (map views.lock (drop l.lock-index l.locks))) ≡ spec.least spec.in_lock (map views.lock l.locks)
