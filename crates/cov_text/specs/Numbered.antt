-- The tokens of a text as the grammar takes them: which keyword or sign each is, the value of a number, and the number of
-- a name in the order in which the names of the text first occur.
use Rattle.std.specs.Prelude.{ℕ, List, [], ◌∷◌, map}
use Rattle.cov_lex.specs.declared.token.Token as lexed
use Rattle.cov_lex.specs.declared.token.TokenKind.{TokenKind}
use Rattle.cov_lex.specs.declared.token.TokenKind.TheVariants as raw
use Rattle.cov_lex.specs.Tokens.{bytes_of}
use Rattle.cov_lex.specs.Classified.{kind_of}
use Rattle.cov_grammar.specs.declared.token.Token.{Token}
use Rattle.cov_ast.specs.NameTables.{number_of, with_name}

-- Names --------------------------------------------------------------------------------------------------------

-- the names with a word that is a token of a kind, at the end, if it is a name and wasn't there
abbrev pub with_word : TokenKind → List ℕ → List (List ℕ) → List (List ℕ)
with_word raw.Name word names = with_name names word
with_word raw.Keyword word names = names
with_word (raw.Number n) word names = names
with_word raw.Sign word names = names

abbrev pub with_token : List ℕ → List (List ℕ) → lexed.Token → List (List ℕ)
with_token text names t = with_word t.kind (bytes_of text t) names

abbrev pub names_onto : List ℕ → List (List ℕ) → List lexed.Token → List (List ℕ)
names_onto text names [] = names
names_onto text names (t ∷ ts) = names_onto text (with_token text names t) ts

-- the names of a text, each where it first occurs
abbrev pub names_of : List ℕ → List lexed.Token → List (List ℕ)
names_of text ts = names_onto text [] ts

-- Tokens -------------------------------------------------------------------------------------------------------

-- the number of a name among names, the value of a number
abbrev pub token_value : TokenKind → List ℕ → List (List ℕ) → ℕ
token_value raw.Name word names = number_of names word
token_value raw.Keyword word names = 0
token_value (raw.Number n) word names = n
token_value raw.Sign word names = 0

-- a token among names
abbrev pub word_of : List ℕ → List (List ℕ) → lexed.Token → Token
word_of text names t =
    record { kind = kind_of t.kind (bytes_of text t); at = t.at; end = t.end; value = token_value t.kind (bytes_of text t) names }

abbrev pub words_of : List ℕ → List lexed.Token → List Token
words_of text ts = map (word_of text (names_of text ts)) ts
