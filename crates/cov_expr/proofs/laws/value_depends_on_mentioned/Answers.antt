use Rattle.cov_expr.proofs.Values.{value_mentioned}
use Rattle.cov_expr.proofs.laws.value_depends_on_mentioned.Goals as goal

pub returns : goal.returns
returns c = value_mentioned
