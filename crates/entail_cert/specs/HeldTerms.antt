-- The expression that is lent or made.
use Rattle.cov_expr.specs.Term.{Term}
use Rattle.cov_expr.specs.View.{term}
use Rattle.entail_cert.specs.declared.held.Held.{Held}
use Rattle.entail_cert.specs.declared.held.Held.TheVariants.{Lent, Made}

abbrev pub held_term : Held → Term
held_term (Lent e) = term e.now
held_term (Made e) = term e
