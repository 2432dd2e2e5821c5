use Rattle.std.proofs.Common.{◌≡◌, ◌==◌, map, drop}
use Rattle.std.specs.List.{list_any}
use Rattle.level_text.specs.TextViews as views
use Rattle.level_text.proofs.markers.is_used.Given as goal

abbrev pub invariant-loop-variable : goal.invariant-loop-variable
invariant-loop-variable l = list_any (λ n. n.0 == l.number) (map views.named (drop l.variable-index l.variables)) ≡ list_any (λ n. n.0 == l.number) (map views.named l.variables)
