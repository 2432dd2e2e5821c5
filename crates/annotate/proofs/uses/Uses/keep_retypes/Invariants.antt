use Rattle.std.proofs.Common.{◌≡◌, drop, flat_map, map}
use Rattle.cov_ast.specs.Ready.{uses_in_type}
use Rattle.cov_ast.specs.View as view
use Rattle.annotate.specs.declared.uses.Way.TheVariants.{Keep}
use Rattle.annotate.specs.Inside.Going.{gone, halfway}
use Rattle.annotate.proofs.uses.Uses.keep_retypes.Given as goal

-- behind what is left of the uses it stands as behind all of them
abbrev pub invariant-loop-retype : goal.invariant-loop-retype
invariant-loop-retype l =
    gone Keep (flat_map uses_in_type (map view.retype (drop l.retype-index l.retypes))) (halfway l.self) ≡ gone Keep (flat_map uses_in_type (map view.retype l.retypes)) (halfway l.fn.self)
