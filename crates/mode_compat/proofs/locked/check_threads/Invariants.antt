use Rattle.std.proofs.Common.{◌≡◌, drop, map}
use Rattle.std.specs.List.{flat_map}
use Rattle.cov_ast.specs.View as view
use Rattle.cov_ast.specs.Obligations.{first_false}
use Rattle.mode_compat.specs.Compatible.{w6_obligations}
use Rattle.mode_compat.proofs.locked.check_threads.Given as goal

abbrev pub invariant-loop-thread : goal.invariant-loop-thread
invariant-loop-thread l =
    first_false (flat_map (w6_obligations (view.program l.p)) (map view.thread (drop l.thread-index l.p.threads)))
    ≡ first_false (flat_map (w6_obligations (view.program l.p)) (map view.thread l.p.threads))
