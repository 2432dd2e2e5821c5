use Rattle.std.proofs.Common.{◌≡◌, ◌++◌, drop, map}
use Rattle.cov_ast.specs.View as view
use Rattle.cov_ast.proofs.copies.copy_vars.Given as goal

abbrev pub invariant-loop-var : goal.invariant-loop-var
invariant-loop-var l = map view.var l.copies ++ map view.var (drop l.var-index l.vars) ≡ map view.var l.vars
