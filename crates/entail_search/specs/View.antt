-- The plain data that facts of the code stand for.
use Rattle.cov_expr.specs.View.{term}
use Rattle.cov_ast.specs.View as view
use Rattle.entail_search.specs.declared.facts.Fact.{Fact}
use Rattle.entail_search.specs.Facts as spec

abbrev pub fact : Fact → spec.Fact
fact f = record { says = term f.says; shown = view.cert f.shown }
