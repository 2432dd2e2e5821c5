use Rattle.std.proofs.Common.{◌≡◌, ◌++◌, drop, map}
use Rattle.cov_ast.specs.Declarations.{lists}
use Rattle.cov_ast.specs.View as view
use Rattle.entail_origins.proofs.type_steps.locks_over.Given as goal

-- the marks so far, and those of the locks that are left, are all
abbrev pub invariant-loop-lock : goal.invariant-loop-lock
invariant-loop-lock l =
    l.marks ++ map (λ k. lists k l.z) (map view.lock (drop l.lock-index l.p.locks)) ≡ map (λ k. lists k l.z) (map view.lock l.p.locks)
