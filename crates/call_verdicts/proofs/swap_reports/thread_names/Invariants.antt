use Rattle.std.proofs.Common.{◌≡◌, map, take}
use Rattle.cov_ast.specs.View as view
use Rattle.call_verdicts.proofs.swap_reports.thread_names.Given as goal

abbrev pub invariant-loop-thread : goal.invariant-loop-thread
invariant-loop-thread l = l.names ≡ map (λ t. t.name) (map view.thread (take l.thread-index l.threads))
