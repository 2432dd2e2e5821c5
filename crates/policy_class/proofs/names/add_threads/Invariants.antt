use Rattle.std.proofs.Common.{◌≡◌, ◌++◌, map, drop}
use Rattle.cov_ast.specs.View as view
use Rattle.policy_class.specs.Inside.DeclaredNames.{declared_name}
use Rattle.policy_class.specs.Resolved.{thread_named}
use Rattle.policy_class.proofs.names.add_threads.Given as goal

abbrev pub invariant-loop-thread : goal.invariant-loop-thread
invariant-loop-thread l =
    map declared_name l.made ++ map thread_named (map view.thread (drop l.thread-index l.threads)) ≡ map declared_name l.initial.made ++ map thread_named (map view.thread l.threads)
