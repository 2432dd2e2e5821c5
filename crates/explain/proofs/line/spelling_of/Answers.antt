use Rattle.cov_expr.specs.Spellings.{spellings}
use Rattle.explain.specs.ExpectedLines.{spelling_of}
use Rattle.explain.proofs.line.spelling_of.Goals as goal

pub returns : goal.returns
unfolding spellings spelling_of
returns c = c.spelling_among.ensures
