use Rattle.std.proofs.Common.{◌≡◌, ◌++◌, map, drop}
use Rattle.cov_ast.specs.View as view
use Rattle.nearest_name.proofs.lines.add_nearest.Given as goal

-- the names so far, and those that are left
abbrev pub invariant-loop-lock : goal.invariant-loop-lock
invariant-loop-lock l = l.names ++ map (λ v. v.name) (map view.lock (drop l.lock-index l.locks)) ≡ map (λ v. v.name) (map view.lock l.locks)
