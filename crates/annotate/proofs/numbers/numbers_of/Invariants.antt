use Rattle.std.proofs.Common.{◌≡◌, ◌++◌, drop, map}
use Rattle.cov_ast.specs.NameTables.{number_of}
use Rattle.cov_ast.specs.Syntax.{Var}
use Rattle.cov_ast.specs.View as view
use Rattle.annotate.proofs.numbers.numbers_of.Given as goal

abbrev pub invariant-loop-var : goal.invariant-loop-var
invariant-loop-var l =
    l.made ++ map (λ (v : Var). number_of l.names v.name) (map view.var (drop l.var-index l.vars)) ≡ map (λ (v : Var). number_of l.names v.name) (map view.var l.vars)
