use Rattle.std.proofs.Common.{◌∙◌, rules, sym, map}
use Rattle.std.proofs.lemmas.List.{at_drop_all}
use Rattle.cov_expr.specs.Trees.{has_number}
use Rattle.level_text.specs.TextFaults as spec
use Rattle.level_text.specs.TextViews as views
use Rattle.level_text.proofs.PlaceLaws.{found_step, sooner_none}
use Rattle.level_text.proofs.faults.unknown_level.Goals as goal

pub loop-listing-preserved : goal.loop-listing-preserved
loop-listing-preserved c =
    found_step (λ x. spec.first_failing (has_number c.args.declared.now) (spec.levels_of_listing x)) views.listing c.args.listings.now c.loop-listing.listing-index c.listing-item.result _ c.loop-listing.found c.sooner-found.result c.loop-listing-test.true c.listing-item.is (search rules)
    ∙ c.loop-listing.invariant

pub returns : goal.returns
returns c =
    sym (sooner_none c.loop-listing.found)
    ∙ sym (at_drop_all (λ ys. spec.sooner c.loop-listing.found (spec.least_place (λ x. spec.first_failing (has_number c.args.declared.now) (spec.levels_of_listing x)) (map views.listing ys))) c.args.listings.now c.loop-listing.listing-index c.loop-listing-test.false)
    ∙ c.loop-listing.invariant
