use Rattle.cov_text.specs.Text.{names_of, words_of}
use Rattle.cov_text.specs.Uses.{uses_of}
use Rattle.annotate.proofs.FineTexts.{annotated_fine}
use Rattle.annotate.proofs.laws.annotated_texts_are_within_limits.Goals as goal

pub returns : goal.returns
returns c = λ text tree is depth lt made uses same. annotated_fine (names_of text) (uses_of (words_of text)) uses tree made depth lt is.small same
