use Rattle.std.proofs.Common.{◌≡◌, ◌++◌, drop, map}
use Rattle.cov_ast.specs.View as view
use Rattle.entail_refused.specs.OtherRefusals.{beside_among}
use Rattle.entail_refused.proofs.others.add_beside_from.Given as goal

-- those so far, and those of the threads that are left, are all of them
abbrev pub invariant-loop-u : goal.invariant-loop-u
invariant-loop-u l =
    l.made ++ beside_among (view.program l.p) l.t l.u (map view.thread (drop l.u l.threads)) ≡ l.fn.made ++ beside_among (view.program l.p) l.t 0 (map view.thread l.threads)
