use Rattle.cov_expr.proofs.Values.{value_word}
use Rattle.cov_expr.proofs.laws.values_are_words.Goals as goal

pub returns : goal.returns
returns c = value_word
