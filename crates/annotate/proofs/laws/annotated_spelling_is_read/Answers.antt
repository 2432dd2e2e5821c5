use Rattle.std.proofs.Common.{◌≡◌}
use Rattle.cov_text.specs.Text.{names_of, words_of}
use Rattle.cov_text.specs.Uses.{uses_of}
use Rattle.annotate.proofs.FoundCerts.{found_new}
use Rattle.annotate.proofs.QuietPlaces.{choices_quiet}
use Rattle.annotate.proofs.SpellingLaws.{spelling_is_read}
use Rattle.annotate.proofs.laws.annotated_spelling_is_read.Goals as goal

pub returns : goal.returns
returns c = λ text short tree is formed named depth lt few.
    spelling_is_read text short tree is formed named depth lt (found_new text short tree is formed depth lt (tree.version ≡ 1))
    (choices_quiet depth (names_of text) (uses_of (words_of text)) tree formed) few
