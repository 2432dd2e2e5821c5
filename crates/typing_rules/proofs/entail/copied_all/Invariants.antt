use Rattle.std.proofs.Common.{◌≡◌, ◌++◌, drop, map}
use Rattle.cov_expr.specs.View.{term}
use Rattle.typing_rules.proofs.entail.copied_all.Given as goal

abbrev pub invariant-loop-e : goal.invariant-loop-e
invariant-loop-e l = map term l.made ++ map term (drop l.e-index l.exprs) ≡ map term l.exprs
