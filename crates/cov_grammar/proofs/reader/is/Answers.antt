use Rattle.cov_grammar.specs.LookAhead.{kind_is}
use Rattle.cov_grammar.proofs.reader.is.Goals as goal

pub returns : goal.returns
unfolding kind_is
returns c = c.eq.ensures
