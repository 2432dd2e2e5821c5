use Rattle.std.proofs.Common.{◌≡◌, ◌++◌, drop, map}
use Rattle.cov_ast.specs.View as view
use Rattle.refusal_names.specs.NameLines as spec
use Rattle.refusal_names.proofs.ends.add_held.Given as goal

-- the names so far, and those of the locks that are left, are all of them
abbrev pub invariant-loop-number : goal.invariant-loop-number
invariant-loop-number l =
    l.names ++ spec.held_names l.number l.modes.held (map view.lock (drop l.number l.locks)) ≡ spec.held_names 0 l.modes.held (map view.lock l.locks)
