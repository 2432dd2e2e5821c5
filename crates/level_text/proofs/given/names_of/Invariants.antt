use Rattle.std.proofs.Common.{◌≡◌, ◌++◌, map, drop}
use Rattle.cov_text.specs.GivenTrees.{name_of}
use Rattle.level_text.specs.TextViews as views
use Rattle.level_text.proofs.given.names_of.Given as goal

abbrev pub invariant-loop-level : goal.invariant-loop-level
invariant-loop-level l = l.made ++ map (λ v. name_of l.names v.name.0) (map views.level (drop l.level-index l.levels)) ≡ map (λ v. name_of l.names v.name.0) (map views.level l.levels)
