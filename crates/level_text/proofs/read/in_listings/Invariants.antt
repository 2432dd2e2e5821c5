use Rattle.std.proofs.Common.{◌≡◌, map, drop}
use Rattle.cov_text.specs.Limits.{sooner, least}
use Rattle.level_text.specs.TextFaults.{in_listing}
use Rattle.level_text.specs.TextViews as views
use Rattle.level_text.proofs.read.in_listings.Given as goal

abbrev pub invariant-loop-listing : goal.invariant-loop-listing
invariant-loop-listing l = sooner l.found (least in_listing (map views.listing (drop l.listing-index l.listings))) ≡ least in_listing (map views.listing l.listings)
