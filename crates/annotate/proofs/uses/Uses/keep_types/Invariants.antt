use Rattle.std.proofs.Common.{◌≡◌, drop, flat_map, map}
use Rattle.cov_ast.specs.Ready.{uses_in_type}
use Rattle.cov_ast.specs.View as view
use Rattle.annotate.specs.declared.uses.Way.TheVariants.{Keep}
use Rattle.annotate.specs.Inside.Going.{gone, halfway}
use Rattle.annotate.proofs.uses.Uses.keep_types.Given as goal

-- behind what is left of the uses it stands as behind all of them
abbrev pub invariant-loop-ty : goal.invariant-loop-ty
invariant-loop-ty l =
    gone Keep (flat_map uses_in_type (map view.typed (drop l.ty-index l.types))) (halfway l.self) ≡ gone Keep (flat_map uses_in_type (map view.typed l.types)) (halfway l.fn.self)
