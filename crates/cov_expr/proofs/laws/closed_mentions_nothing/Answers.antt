use Rattle.cov_expr.proofs.Values.{closed_mentions}
use Rattle.cov_expr.proofs.laws.closed_mentions_nothing.Goals as goal

pub returns : goal.returns
returns c = closed_mentions
