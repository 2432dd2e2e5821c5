-- The tokens in front of a place, by what is read of the bytes.
use Rattle.std.proofs.Common.{◌≡◌, ℕ, List, [], Ok, Err, ap, sym}
use Rattle.cov_grammar.specs.declared.token.Token.{Token}
use Rattle.cov_lex.specs.Lexing.{tokens_of}
use Rattle.cov_lex.specs.declared.fault.LexFault.{LexFault}
use Rattle.cov_parse.specs.ReadTokens.{AreRead}
use Rattle.cov_parse.specs.declared.tokens.Tokens.{Tokens}
use Rattle.cov_text.specs.Numbered as numbered
use Rattle.cov_text.specs.Text.{or_none, lexed_of, numbered_of, words_of}
use Rattle.cov_text.specs.Versioned.{versioned}

pub tokens_read : (front : List ℕ) (r : Tokens) → AreRead front (Ok r) → r.tokens ≡ words_of front
tokens_read front r read = read.2

pub tokens_fault : (front : List ℕ) (e : LexFault) → tokens_of front ≡ Err e → ◌≡◌ {A = List Token} [] (words_of front)
unfolding words_of numbered_of lexed_of
tokens_fault front e h = sym (ap (λ r. versioned (numbered.words_of front (or_none r))) h)
