-- The expression that is written so.
use Rattle.cov_expr.specs.Term.{Term}
use Rattle.cov_expr.specs.View.{term}
use Rattle.cov_read.specs.declared.written.Written.{Written}

abbrev pub written : Written → Term
written w = term w.expr
