use Rattle.std.proofs.Common.{◌≡◌, ◌++◌, map, drop}
use Rattle.level_text.specs.TextViews as views
use Rattle.level_text.proofs.repeats.level_names.Given as goal

abbrev pub invariant-loop-level : goal.invariant-loop-level
invariant-loop-level l = map views.named l.made ++ map (λ v. v.name) (map views.level (drop l.level-index l.levels)) ≡ map (λ v. v.name) (map views.level l.levels)
