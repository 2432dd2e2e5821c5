use Rattle.std.proofs.Common.{◌≡◌, ◌++◌, map, drop}
use Rattle.level_text.specs.Inside.GivenBy.{level_by}
use Rattle.level_text.specs.TextViews as views
use Rattle.level_text.proofs.given.ids_of.Given as goal

abbrev pub invariant-loop-named : goal.invariant-loop-named
invariant-loop-named l = l.made ++ map (λ n. level_by l.declared n.0) (map views.named (drop l.named-index l.lower)) ≡ map (λ n. level_by l.declared n.0) (map views.named l.lower)
