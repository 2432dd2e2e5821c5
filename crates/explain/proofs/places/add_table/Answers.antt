use Rattle.cov_expr.specs.Spellings.{spellings}
use Rattle.explain.proofs.places.add_table.Goals as goal

pub returns-clause-found : goal.returns-clause-found
unfolding spellings
returns-clause-found c = c.add_spelled.ensures.found
