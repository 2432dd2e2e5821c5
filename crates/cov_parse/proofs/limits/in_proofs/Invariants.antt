use Rattle.std.proofs.Common.{◌≡◌, map, drop}
use Rattle.cov_text.specs.Limits as spec
use Rattle.cov_read.specs.StateViews as views
use Rattle.cov_parse.proofs.limits.in_proofs.Given as goal

abbrev pub invariant-loop-proof : goal.invariant-loop-proof
invariant-loop-proof l = spec.sooner l.found (spec.least spec.in_proof (map views.proof (drop l.proof-index l.proofs))) ≡ spec.least spec.in_proof (map views.proof l.proofs)
