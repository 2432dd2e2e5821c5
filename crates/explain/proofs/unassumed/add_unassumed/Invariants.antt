use Rattle.std.proofs.Common.{◌≡◌, drop, map}
use Rattle.cov_ast.specs.View as view
use Rattle.explain.specs.UnassumedVariables.{with_unassumed}
use Rattle.explain.proofs.unassumed.add_unassumed.Given as goal

-- what was found so far, and with the variables that are left, is what is found of all
abbrev pub invariant-loop-x : goal.invariant-loop-x
invariant-loop-x l =
    with_unassumed (view.program l.p) l.t l.found l.x (map view.var (drop l.x l.vars)) ≡ with_unassumed (view.program l.p) l.t l.fn.found 0 (map view.var l.vars)
