use Rattle.std.proofs.Common.{◌≡◌, ◌++◌, drop, map}
use Rattle.cov_ast.specs.View as view
use Rattle.cov_print.specs.Spelling as spec
use Rattle.cov_print.proofs.state.add_types.Given as goal

-- what is written, and what is left, are the whole list
abbrev pub invariant-loop-t : goal.invariant-loop-t
invariant-loop-t l =
    l.out ++ spec.more (spec.typed l.names) (map view.typed (drop l.t-index l.rest)) ≡ l.fn.out ++ spec.listed (spec.typed l.names) (map view.typed l.types)
