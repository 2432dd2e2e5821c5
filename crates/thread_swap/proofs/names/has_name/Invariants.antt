use Rattle.std.proofs.Common.{◌≡◌, map, drop}
use Rattle.cov_ast.specs.View as view
use Rattle.policy_class.specs.Resolved.{is_among}
use Rattle.thread_swap.proofs.names.has_name.Given as goal

-- the name is none of a thread before
abbrev pub invariant-loop-thread : goal.invariant-loop-thread
invariant-loop-thread l =
    is_among (map (λ t. t.name) (map view.thread (drop l.thread-index l.threads))) l.name ≡ is_among (map (λ t. t.name) (map view.thread l.threads)) l.name
