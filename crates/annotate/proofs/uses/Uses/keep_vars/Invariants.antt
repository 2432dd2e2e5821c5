use Rattle.std.proofs.Common.{◌≡◌, drop, flat_map, map}
use Rattle.cov_ast.specs.Ready.{uses_in_class}
use Rattle.cov_ast.specs.View as view
use Rattle.annotate.specs.declared.uses.Way.TheVariants.{Keep}
use Rattle.annotate.specs.Inside.Going.{gone, halfway}
use Rattle.annotate.proofs.uses.Uses.keep_vars.Given as goal

-- behind what is left of the uses it stands as behind all of them
abbrev pub invariant-loop-var : goal.invariant-loop-var
invariant-loop-var l =
    gone Keep (flat_map (λ v. uses_in_class v.class) (map view.var (drop l.var-index l.vars))) (halfway l.self) ≡ gone Keep (flat_map (λ v. uses_in_class v.class) (map view.var l.vars)) (halfway l.fn.self)
