use Rattle.std.proofs.Common.{◌≡◌, [], map, drop}
use Rattle.level_text.specs.TextFaults as spec
use Rattle.level_text.specs.TextViews as views
use Rattle.level_text.proofs.repeats.first_again.Given as goal

abbrev pub invariant-loop-named : goal.invariant-loop-named
invariant-loop-named l = spec.sooner l.found (spec.first_again l.names l.before (map views.named (drop l.named-index l.list))) ≡ spec.first_again l.names [] (map views.named l.list)
