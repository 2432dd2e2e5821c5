use Rattle.std.proofs.Common.{◌≡◌, drop}
use Rattle.std.specs.List.{flat_map}
use Rattle.cov_ast.specs.View as view
use Rattle.cov_ast.specs.Obligations.{first_false}
use Rattle.mode_compat.specs.Compatible.{w9_other, threads_of}
use Rattle.mode_compat.proofs.pairs.check_others.Given as goal

abbrev pub invariant-loop-u : goal.invariant-loop-u
invariant-loop-u l =
    first_false (flat_map (w9_other (view.program l.p) l.t) (drop l.u (threads_of (view.program l.p))))
    ≡ first_false (flat_map (w9_other (view.program l.p) l.t) (threads_of (view.program l.p)))
