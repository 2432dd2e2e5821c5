use Rattle.std.proofs.Common.{◌∙◌, rules}
use Rattle.cov_parse.proofs.LimitLaws.{found_step}
use Rattle.level_text.specs.TextFaults.{in_listing}
use Rattle.level_text.specs.TextViews as views
use Rattle.level_text.proofs.read.in_listings.Goals as goal

pub loop-listing-preserved : goal.loop-listing-preserved
loop-listing-preserved c =
    found_step in_listing views.listing c.args.listings.now c.loop-listing.listing-index c.listing-item.result _ c.loop-listing.found c.sooner-found.result c.loop-listing-test.true c.listing-item.is (search rules)
    ∙ c.loop-listing.invariant
