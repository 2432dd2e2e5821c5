use Rattle.std.proofs.Common.{◌≡◌, [], map, drop}
use Rattle.level_text.specs.TextFaults as spec
use Rattle.level_text.specs.TextViews as views
use Rattle.level_text.proofs.faults.unknown_lower.Given as goal

abbrev pub invariant-loop-level : goal.invariant-loop-level
invariant-loop-level l = spec.sooner l.found (spec.unknown_lower l.before (map views.level (drop l.level-index l.levels))) ≡ spec.unknown_lower [] (map views.level l.levels)
