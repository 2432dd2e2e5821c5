use Rattle.std.proofs.Common.{◌≡◌, ◌++◌, drop, map}
use Rattle.cov_ast.specs.View as view
use Rattle.risc_compile.proofs.program.var_names.Given as goal

-- the names that are told, and those of what is left, are all of them
abbrev pub invariant-loop-var : goal.invariant-loop-var
invariant-loop-var l = l.names ++ map (λ v. v.name) (map view.var (drop l.var-index l.vars)) ≡ map (λ v. v.name) (map view.var l.vars)
