use Rattle.std.proofs.Common.{◌≡◌, map, drop}
use Rattle.cov_text.specs.Limits as spec
use Rattle.cov_read.specs.DeclViews as views
use Rattle.cov_parse.proofs.limits.in_threads.Given as goal

abbrev pub invariant-loop-thread : goal.invariant-loop-thread
invariant-loop-thread l = spec.sooner l.found (spec.least spec.in_thread (map views.thread (drop l.thread-index l.threads))) ≡ spec.least spec.in_thread (map views.thread l.threads)
