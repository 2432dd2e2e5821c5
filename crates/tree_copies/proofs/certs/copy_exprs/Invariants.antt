use Rattle.std.proofs.Common.{◌≡◌, ◌++◌, drop, map}
use Rattle.cov_expr.specs.View.{term}
use Rattle.tree_copies.proofs.certs.copy_exprs.Given as goal

abbrev pub invariant-loop-e : goal.invariant-loop-e
invariant-loop-e l = map term l.copies ++ map term (drop l.e-index l.es) ≡ map term l.es
