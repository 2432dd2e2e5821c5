-- What is read of the bytes of a text.
use Rattle.std.specs.Prelude.{◌≡◌, ℕ, List, Result, Ok, Err}
use Rattle.cov_lex.specs.Lexing.{tokens_of, Gives}
use Rattle.cov_lex.specs.declared.fault.LexFault.{LexFault}
use Rattle.cov_text.specs.Text.{lexed_of, words_of, names_of}
use Rattle.cov_parse.specs.declared.tokens.Tokens.{Tokens}

-- the tokens of the text and its names, or its lexical fault
abbrev pub AreRead : (text : List ℕ) → Result Tokens LexFault → Type 0
AreRead text (Ok r) = (tokens_of text ≡ Ok (lexed_of text)) × (r.names ≡ names_of text) × (r.tokens ≡ words_of text)
AreRead text (Err fault) = Gives (Err fault) (tokens_of text)
