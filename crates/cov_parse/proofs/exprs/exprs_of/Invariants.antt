use Rattle.std.proofs.Common.{◌≡◌, ◌++◌, map, reverse, length}
use Rattle.cov_expr.specs.View.{term}
use Rattle.cov_read.specs.CertViews as certs
use Rattle.cov_text.specs.GivenTrees as spec
use Rattle.cov_parse.proofs.exprs.exprs_of.Given as goal

abbrev pub invariant-loop-e : goal.invariant-loop-e
invariant-loop-e l = map term l.made ++ map spec.expr_of (map certs.whole (reverse l.rest)) ≡ map spec.expr_of (map certs.whole l.fn.es)

abbrev pub decreases-loop-e : goal.decreases-loop-e
decreases-loop-e l = length l.rest
