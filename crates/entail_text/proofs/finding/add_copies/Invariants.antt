use Rattle.std.proofs.Common.{◌≡◌, ◌++◌, drop, map}
use Rattle.cov_expr.specs.View.{term}
use Rattle.entail_text.proofs.finding.add_copies.Given as goal

abbrev pub invariant-loop-e : goal.invariant-loop-e
invariant-loop-e l = map term l.made ++ map term (drop l.e-index l.all) ≡ map term l.fn.made ++ map term l.all
