use Rattle.std.proofs.Common.{◌≡◌, ◌++◌, drop, map}
use Rattle.cov_ast.specs.Plain.{plain}
use Rattle.cov_ast.specs.View as view
use Rattle.explain.specs.Unused as spec
use Rattle.explain.proofs.unused.add_variables.Given as goal

abbrev pub invariant-loop-x : goal.invariant-loop-x
invariant-loop-x l =
    let p = plain (view.program l.program) in
    l.found ++ spec.of_variables p l.x (map view.var (drop l.x l.program.vars)) ≡ l.fn.found ++ spec.of_variables p 0 (map view.var l.program.vars)
