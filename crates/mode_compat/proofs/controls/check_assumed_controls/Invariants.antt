use Rattle.std.proofs.Common.{◌≡◌, drop, map}
use Rattle.std.specs.List.{flat_map}
use Rattle.cov_ast.specs.View as view
use Rattle.cov_ast.specs.Obligations.{first_false}
use Rattle.mode_compat.specs.Compatible.{w8_obligations}
use Rattle.mode_compat.proofs.controls.check_assumed_controls.Given as goal

abbrev pub invariant-loop-thread : goal.invariant-loop-thread
invariant-loop-thread l =
    first_false (flat_map (w8_obligations (view.program l.p)) (map view.thread (drop l.thread-index l.p.threads)))
    ≡ first_false (flat_map (w8_obligations (view.program l.p)) (map view.thread l.p.threads))
