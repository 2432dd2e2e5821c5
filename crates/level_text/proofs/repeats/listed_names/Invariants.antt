use Rattle.std.proofs.Common.{◌≡◌, ◌++◌, map, drop}
use Rattle.level_text.specs.TextViews as views
use Rattle.level_text.proofs.repeats.listed_names.Given as goal

abbrev pub invariant-loop-listing : goal.invariant-loop-listing
invariant-loop-listing l = map views.named l.made ++ map (λ x. x.var) (map views.listing (drop l.listing-index l.listings)) ≡ map (λ x. x.var) (map views.listing l.listings)
