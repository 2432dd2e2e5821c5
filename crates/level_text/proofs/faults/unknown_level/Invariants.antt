use Rattle.std.proofs.Common.{◌≡◌, map, drop}
use Rattle.cov_expr.specs.Trees.{has_number}
use Rattle.level_text.specs.TextFaults as spec
use Rattle.level_text.specs.TextViews as views
use Rattle.level_text.proofs.faults.unknown_level.Given as goal

abbrev pub invariant-loop-listing : goal.invariant-loop-listing
invariant-loop-listing l = spec.sooner l.found (spec.least_place (λ x. spec.first_failing (has_number l.declared) (spec.levels_of_listing x)) (map views.listing (drop l.listing-index l.listings))) ≡ spec.least_place (λ x. spec.first_failing (has_number l.declared) (spec.levels_of_listing x)) (map views.listing l.listings)
