use Rattle.cov_expr.proofs.Values.{value-subst}
use Rattle.cov_expr.proofs.laws.substitution_is_a_store.Goals as goal

pub returns : goal.returns
returns c = value-subst
