-- What the code has of a predicate that a step may give.
use Rattle.cov_expr.specs.Term.{Term, var, neg, bin}
use Rattle.cov_expr.specs.View.{term}
use Rattle.cov_expr.specs.declared.expr.Op.TheVariants.{Eq}
use Rattle.entail_origins.specs.Origins.{Given}
use Rattle.entail_origins.specs.declared.given.Given as declared
use Rattle.entail_origins.specs.declared.given.GivenTerm as declared_term
use Rattle.entail_origins.specs.declared.given.GivenTerm.TheVariants as by

abbrev pub given_term : declared_term.GivenTerm → Term
given_term (by.Written e) = term e.now
given_term (by.Negation e) = neg (term e.now)
given_term (by.Equation x e) = bin Eq (var x) (term e.now)

abbrev pub given : declared.Given → Given
given g = record { source = g.source; term = given_term g.term }
