use Rattle.std.proofs.Common.{◌≡◌, map, drop}
use Rattle.cov_ast.specs.View as program_view
use Rattle.level_text.specs.TextFaults.{sooner, unknown_variable}
use Rattle.level_text.specs.TextViews as views
use Rattle.level_text.proofs.variables.unknown_variable.Given as goal

abbrev pub invariant-loop-variable : goal.invariant-loop-variable
invariant-loop-variable l =
    sooner l.found (unknown_variable l.names (program_view.parsed l.p) (map views.named (drop l.variable-index l.variables)))
    ≡ unknown_variable l.names (program_view.parsed l.p) (map views.named l.variables)
