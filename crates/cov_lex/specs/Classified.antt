-- The tokens of a text as the grammar takes them: which keyword or sign each is, and the value of each number.
use Rattle.std.specs.Prelude.{◌≡◌, ℕ, List, map, unwrap_or, Result, Ok, Err}
use Rattle.cov_expr.specs.Spellings as spellings
use Rattle.cov_expr.specs.declared.kind.Kind.{Kind}
use Rattle.cov_expr.specs.declared.kind.Kind.TheVariants as k
use Rattle.cov_grammar.specs.declared.token.Token as grammar
use Rattle.cov_lex.specs.declared.token.Token.{Token}
use Rattle.cov_lex.specs.declared.token.TokenKind.{TokenKind}
use Rattle.cov_lex.specs.declared.token.TokenKind.TheVariants.{Keyword, Name, Number, Sign}
use Rattle.cov_lex.specs.declared.fault.LexFault.{LexFault}
use Rattle.cov_lex.specs.Lexing.{Lexed, tokens_of}
use Rattle.cov_lex.specs.Tokens.{bytes_of, AreTokens}

-- the kind of a token with these bytes; what isn't in the table of spellings counts as a name
abbrev pub kind_of : TokenKind → List ℕ → Kind
kind_of Keyword bytes = unwrap_or (spellings.kind_of bytes) k.Name
kind_of Name bytes = k.Name
kind_of (Number n) bytes = k.Number
kind_of Sign bytes = unwrap_or (spellings.kind_of bytes) k.Name

-- the value of a number
abbrev pub number_value : TokenKind → ℕ
number_value Keyword = 0
number_value Name = 0
number_value (Number n) = n
number_value Sign = 0

-- a token of a text
abbrev pub classified : List ℕ → Token → grammar.Token
classified text t = record { kind = kind_of t.kind (bytes_of text t); at = t.at; end = t.end; value = number_value t.kind }

abbrev pub all_classified : List ℕ → Lexed → Result (List grammar.Token) LexFault
all_classified text (Ok ts) = Ok (map (classified text) ts)
all_classified text (Err fault) = Err fault

-- the tokens of a text, or its lexical fault of least offset
unfoldable pub classified_of : List ℕ → Result (List grammar.Token) LexFault
classified_of text = all_classified text (tokens_of text)

-- The tokens are those of the text.
pub record AreClassified (text : List ℕ) (cs : List grammar.Token) : Type 0 where
  pub read : List Token
  pub lexes : tokens_of text ≡ Ok read
  pub tokens : AreTokens text read
  pub same : cs ≡ map (classified text) read
