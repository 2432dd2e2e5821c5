use Rattle.std.proofs.Common.{◌≡◌, drop, map}
use Rattle.cov_ast.specs.View as view
use Rattle.explain.specs.UnassumedVariables.{are_met}
use Rattle.explain.proofs.unassumed.are_met.Given as goal

-- whether those that are left are so says it of all
abbrev pub invariant-loop-u : goal.invariant-loop-u
invariant-loop-u l = are_met l.t l.x l.u (map view.thread (drop l.u l.threads)) ≡ are_met l.t l.x 0 (map view.thread l.threads)
