use Rattle.std.proofs.Common.{◌≡◌, ◌++◌, drop, map, flat_map}
use Rattle.cov_ast.specs.View as view
use Rattle.cov_print.specs.Spelling as spec
use Rattle.cov_print.proofs.program.add_vars.Given as goal

-- the lines that are written, and those of what is left, are all of them
abbrev pub invariant-loop-v : goal.invariant-loop-v
invariant-loop-v l =
    l.out ++ flat_map (spec.var_line l.names) (map view.var (drop l.v-index l.vars)) ≡ l.fn.out ++ flat_map (spec.var_line l.names) (map view.var l.vars)
