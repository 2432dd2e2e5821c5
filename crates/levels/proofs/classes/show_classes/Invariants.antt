use Rattle.std.proofs.Common.{◌≡◌, ◌++◌, drop, map, take}
use Rattle.cov_ast.specs.View as view
use Rattle.level_text.specs.Views as level_view
use Rattle.levels.specs.Projection.{shown_vars}
use Rattle.levels.proofs.classes.show_classes.Given as goal

abbrev pub invariant-loop-x : goal.invariant-loop-x
invariant-loop-x l =
    take l.x (map view.var l.vars) ++ shown_vars l.seen (level_view.levels l.l) l.x (drop l.x (map view.var l.vars))
    ≡ shown_vars l.seen (level_view.levels l.l) 0 (map view.var l.initial.vars)
