use Rattle.std.proofs.Common.{◌≡◌, ◌++◌, map, drop}
use Rattle.cov_ast.specs.View as view
use Rattle.policy_class.specs.Inside.DeclaredNames.{declared_name}
use Rattle.policy_class.specs.Resolved.{lock_named}
use Rattle.policy_class.proofs.names.add_locks.Given as goal

abbrev pub invariant-loop-lock : goal.invariant-loop-lock
invariant-loop-lock l =
    map declared_name l.made ++ map lock_named (map view.lock (drop l.lock-index l.locks)) ≡ map declared_name l.initial.made ++ map lock_named (map view.lock l.locks)
