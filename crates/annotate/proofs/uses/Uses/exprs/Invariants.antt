use Rattle.std.proofs.Common.{◌≡◌, drop, flat_map, map}
use Rattle.cov_expr.specs.View.{term}
use Rattle.cov_ast.specs.Ready.{uses_in}
use Rattle.annotate.specs.Inside.Going.{gone, halfway}
use Rattle.annotate.proofs.uses.Uses.exprs.Given as goal

-- behind what is left of the uses it stands as behind all of them
abbrev pub invariant-loop-e : goal.invariant-loop-e
invariant-loop-e l =
    gone l.way (flat_map uses_in (map term (drop l.e-index l.es))) (halfway l.self) ≡ gone l.way (flat_map uses_in (map term l.es)) (halfway l.fn.self)
