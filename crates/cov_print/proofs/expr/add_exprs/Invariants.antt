use Rattle.std.proofs.Common.{◌≡◌, ◌++◌, drop, map}
use Rattle.cov_expr.specs.View.{term}
use Rattle.cov_print.specs.Spelling as spec
use Rattle.cov_print.proofs.expr.add_exprs.Given as goal

-- what is written, and what is left, are the whole list
abbrev pub invariant-loop-e : goal.invariant-loop-e
invariant-loop-e l =
    l.out ++ spec.more (spec.whole l.names) (map term (drop l.e-index l.rest)) ≡ l.fn.out ++ spec.listed (spec.whole l.names) (map term l.es)
