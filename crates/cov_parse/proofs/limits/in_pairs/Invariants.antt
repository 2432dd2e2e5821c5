use Rattle.std.proofs.Common.{◌≡◌, map, drop}
use Rattle.cov_text.specs.Limits as spec
use Rattle.cov_read.specs.StateViews as views
use Rattle.cov_parse.proofs.limits.in_pairs.Given as goal

abbrev pub invariant-loop-pair : goal.invariant-loop-pair
invariant-loop-pair l = spec.sooner l.found (spec.least spec.in_pair (map views.typed (drop l.pair-index l.pairs))) ≡ spec.least spec.in_pair (map views.typed l.pairs)
