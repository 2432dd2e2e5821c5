use Rattle.std.proofs.Common.{◌≡◌, drop, map}
use Rattle.std.specs.List.{flat_map}
use Rattle.cov_ast.specs.View as view
use Rattle.cov_ast.specs.Obligations.{first_false}
use Rattle.lock_spec.specs.Locks.{invariant_obligations}
use Rattle.lock_spec.proofs.locks.check_invariants.Given as goal

abbrev pub invariant-loop-lock : goal.invariant-loop-lock
invariant-loop-lock l =
    first_false (flat_map (invariant_obligations (view.program l.p)) (map view.lock (drop l.lock-index l.p.locks)))
    ≡ first_false (flat_map (invariant_obligations (view.program l.p)) (map view.lock l.p.locks))
