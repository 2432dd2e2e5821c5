use Rattle.std.proofs.Common.{◌≡◌, map, drop}
use Rattle.std.specs.Str.{bytes_eq}
use Rattle.cov_ast.specs.View as view
use Rattle.cov_ast.specs.WellFormed.{are_distinct}
use Rattle.thread_swap.proofs.names.names_differ.Given as goal

-- no thread before has the name of one behind it
abbrev pub invariant-loop-i : goal.invariant-loop-i
invariant-loop-i l =
    are_distinct bytes_eq (map (λ t. t.name) (map view.thread (drop l.i l.threads))) ≡ are_distinct bytes_eq (map (λ t. t.name) (map view.thread l.threads))
