use Rattle.std.proofs.Common.{◌≡◌, ◌++◌, drop, map}
use Rattle.cov_ast.specs.View as view
use Rattle.risc_compile.proofs.program.lock_names.Given as goal

-- the names that are told, and those of what is left, are all of them
abbrev pub invariant-loop-lock : goal.invariant-loop-lock
invariant-loop-lock l = l.names ++ map (λ k. k.name) (map view.lock (drop l.lock-index l.locks)) ≡ map (λ k. k.name) (map view.lock l.locks)
