use Rattle.std.proofs.Common.{◌≡◌, drop}
use Rattle.std.specs.List.{flat_map}
use Rattle.cov_ast.specs.View as view
use Rattle.cov_ast.specs.Obligations.{first_false}
use Rattle.mode_compat.specs.Compatible.{w9_obligations, threads_of}
use Rattle.mode_compat.proofs.pairs.check_threads.Given as goal

abbrev pub invariant-loop-t : goal.invariant-loop-t
invariant-loop-t l =
    first_false (flat_map (w9_obligations (view.program l.p)) (drop l.t (threads_of (view.program l.p))))
    ≡ first_false (flat_map (w9_obligations (view.program l.p)) (threads_of (view.program l.p)))
