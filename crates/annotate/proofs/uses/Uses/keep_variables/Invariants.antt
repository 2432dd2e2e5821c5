use Rattle.std.proofs.Common.{◌≡◌, drop, flat_map}
use Rattle.cov_ast.specs.Ready.{as_variable}
use Rattle.annotate.specs.declared.uses.Way.TheVariants.{Keep}
use Rattle.annotate.specs.Inside.Going.{gone, halfway}
use Rattle.annotate.proofs.uses.Uses.keep_variables.Given as goal

-- behind what is left of the uses it stands as behind all of them
abbrev pub invariant-loop-x : goal.invariant-loop-x
invariant-loop-x l =
    gone Keep (flat_map as_variable (drop l.x-index l.xs)) (halfway l.self) ≡ gone Keep (flat_map as_variable l.xs) (halfway l.fn.self)
