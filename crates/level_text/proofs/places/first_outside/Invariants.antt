use Rattle.std.proofs.Common.{◌≡◌, map, drop}
use Rattle.cov_expr.specs.Trees.{has_number}
use Rattle.level_text.specs.TextFaults as spec
use Rattle.level_text.specs.TextViews as views
use Rattle.level_text.proofs.places.first_outside.Given as goal

abbrev pub invariant-loop-name : goal.invariant-loop-name
invariant-loop-name l = spec.sooner l.found (spec.least_place (spec.failing (has_number l.numbers)) (map views.named (drop l.name-index l.names))) ≡ spec.least_place (spec.failing (has_number l.numbers)) (map views.named l.names)
