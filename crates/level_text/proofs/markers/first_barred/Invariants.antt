use Rattle.std.proofs.Common.{◌≡◌, map, drop}
use Rattle.cov_ast.specs.View as program_view
use Rattle.level_text.specs.TextFaults.{sooner, first_barred}
use Rattle.level_text.specs.TextViews as views
use Rattle.level_text.proofs.markers.first_barred.Given as goal

abbrev pub invariant-loop-level : goal.invariant-loop-level
invariant-loop-level l =
    sooner l.found (first_barred l.names (program_view.parsed l.p) (map views.named l.variables) (map views.level (drop l.level-index l.levels)))
    ≡ first_barred l.names (program_view.parsed l.p) (map views.named l.variables) (map views.level l.levels)
