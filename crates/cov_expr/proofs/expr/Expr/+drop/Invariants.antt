use Rattle.std.proofs.Common.{◌≤◌}
use Rattle.cov_expr.proofs.expr.Expr.TheLaws.{the_size}
use Rattle.cov_expr.proofs.expr.Expr.+drop.Given as goal

-- what is left is a part of the whole
abbrev pub invariant-loop-self : goal.invariant-loop-self
invariant-loop-self l = the_size l.self ≤ the_size l.fn.self

abbrev pub decreases-loop-self : goal.decreases-loop-self
decreases-loop-self l = the_size l.self
