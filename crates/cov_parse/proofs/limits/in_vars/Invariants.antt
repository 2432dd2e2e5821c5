use Rattle.std.proofs.Common.{◌≡◌, map, drop}
use Rattle.cov_text.specs.Limits as spec
use Rattle.cov_read.specs.DeclViews as views
use Rattle.cov_parse.proofs.limits.in_vars.Given as goal

abbrev pub invariant-loop-var : goal.invariant-loop-var
invariant-loop-var l = spec.sooner l.found (spec.least spec.in_var (map views.var (drop l.var-index l.vars))) ≡ spec.least spec.in_var (map views.var l.vars)
