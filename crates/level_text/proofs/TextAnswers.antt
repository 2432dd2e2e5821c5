-- From tokens and trees of texts of levels to the answer for a text.
use Rattle.std.proofs.Common.{◌≡◌, ℕ, List, Result, sym, subst}
use Rattle.cov_grammar.specs.declared.token.Token.{Token}
use Rattle.cov_grammar.specs.declared.stop.Stop.{Stop}
use Rattle.cov_grammar.specs.declared.fault.TokenFault.{TokenFault}
use Rattle.cov_grammar.specs.Reading.{reading}
use Rattle.cov_grammar.specs.ReaderAnswers as answers
use Rattle.cov_grammar.proofs.Wholes.{finish_stands, whole_answers}
use Rattle.level_text.specs.declared.text.PlacedLevels.{PlacedLevels}
use Rattle.level_text.specs.TextGrammar.{level_text}
use Rattle.level_text.specs.TextViews as views
use Rattle.level_text.proofs.TextItems.{fine_text}

pub text_answers : (end : ℕ) (ts left : List Token) (read : Result PlacedLevels Stop) (r : Result PlacedLevels TokenFault) → answers.Gives views.level_text left read (reading level_text ts)
    → r ≡ answers.whole_answer end left read → answers.Answers level_text views.level_text end ts r
text_answers end ts left read r h e =
    subst (answers.Answers level_text views.level_text end ts) (sym e)
    (whole_answers level_text fine_text views.level_text end ts (answers.whole_answer end left read) (finish_stands views.level_text end left read (reading level_text ts) h))
