use Rattle.std.proofs.Common.{◌≡◌, map, drop}
use Rattle.cov_text.specs.Limits as spec
use Rattle.cov_read.specs.CertViews as views
use Rattle.cov_parse.proofs.limits.in_exprs.Given as goal

abbrev pub invariant-loop-e : goal.invariant-loop-e
invariant-loop-e l = spec.sooner l.found (spec.least spec.in_expr (map views.whole (drop l.e-index l.es))) ≡ spec.least spec.in_expr (map views.whole l.es)
