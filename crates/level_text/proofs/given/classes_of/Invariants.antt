use Rattle.std.proofs.Common.{◌≡◌, ◌++◌, map, drop, All}
use Rattle.level_text.specs.Inside.GivenBy.{ClassHasWords, listing_by}
use Rattle.level_text.specs.TextViews as views
use Rattle.level_text.specs.Views as level_view
use Rattle.level_text.proofs.given.classes_of.Given as goal

abbrev pub invariant-loop-listing : goal.invariant-loop-listing
invariant-loop-listing l = record {
  made : map level_view.listed l.made ++ map (listing_by l.ids l.count l.declared) (map views.listing (drop l.listing-index l.listings)) ≡ map (listing_by l.ids l.count l.declared) (map views.listing l.listings);
  words : All (λ c. ClassHasWords c.1) (map level_view.listed l.made);
}
