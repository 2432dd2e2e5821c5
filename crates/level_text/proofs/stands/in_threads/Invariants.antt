use Rattle.std.proofs.Common.{◌≡◌, drop, map}
use Rattle.std.specs.List.{list_any}
use Rattle.cov_ast.specs.View as view
use Rattle.level_text.specs.TextFaults.{in_thread}
use Rattle.level_text.proofs.stands.in_threads.Given as goal

abbrev pub invariant-loop-thread : goal.invariant-loop-thread
invariant-loop-thread l = list_any (in_thread l.m) (map view.thread (drop l.thread-index l.threads)) ≡ list_any (in_thread l.m) (map view.thread l.threads)
