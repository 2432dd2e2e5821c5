use Rattle.std.proofs.Common.{◌≡◌, ◌++◌, map, drop}
use Rattle.level_text.specs.Inside.GivenBy.{level_by}
use Rattle.level_text.specs.TextViews as views
use Rattle.level_text.proofs.given.below_of.Given as goal

abbrev pub invariant-loop-level : goal.invariant-loop-level
invariant-loop-level l = l.made ++ map (λ v. map (λ n. level_by l.declared n.0) v.lower) (map views.level (drop l.level-index l.levels)) ≡ map (λ v. map (λ n. level_by l.declared n.0) v.lower) (map views.level l.levels)
