use Rattle.std.proofs.Common.{◌≡◌, ◌++◌, drop, map, flat_map}
use Rattle.cov_ast.specs.View as view
use Rattle.cov_print.specs.Spelling as spec
use Rattle.cov_print.proofs.stmt.add_retypes.Given as goal

-- what is written, and what is left, are the whole list
abbrev pub invariant-loop-r : goal.invariant-loop-r
invariant-loop-r l =
    l.out ++ flat_map (spec.retype l.names) (map view.retype (drop l.r-index l.retypes)) ≡ l.fn.out ++ flat_map (spec.retype l.names) (map view.retype l.retypes)
