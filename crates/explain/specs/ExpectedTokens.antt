-- What could stand at a place of a text: each token with which some program goes on there, and the end of the text, where a program ends
-- there. The bytes in front of the place say it alone.
--
-- The limits of programs aren't looked at. Of a name or a number any will do: the grammar asks for the kind of a token alone.
use Rattle.std.specs.Prelude.{ℕ, List, [], ◌∷◌, ◌++◌, map, take, Bool, true, false, ◌&&◌, is_ok}
use Rattle.std.specs.List.{filter}
use Rattle.cov_expr.specs.Spellings.{spellings}
use Rattle.cov_expr.specs.declared.kind.Kind.{Kind}
use Rattle.cov_expr.specs.declared.kind.Kind.TheVariants as k
use Rattle.cov_grammar.specs.declared.token.Token.{Token}
use Rattle.cov_grammar.specs.Grammar.{program}
use Rattle.cov_grammar.specs.PlacedTrees.{Program}
use Rattle.cov_grammar.specs.Reading.{Reading, got, stopped, spent, reading}
use Rattle.cov_lex.specs.Lexing.{tokens_of}
use Rattle.cov_text.specs.Text.{numbered_of, words_of}
use Rattle.cov_text.specs.Versioned.{versioned}
use Rattle.explain.specs.declared.next.Next.{Next}
use Rattle.explain.specs.declared.next.Next.TheVariants as n

-- Tokens -------------------------------------------------------------------------------------------------------

-- whether no token is left that a program couldn't have there
abbrev pub takes_all : Reading Program → Bool
takes_all (got p []) = true
takes_all (got p (t ∷ ts)) = false
takes_all (stopped []) = true
takes_all (stopped (t ∷ ts)) = false
takes_all spent = false

-- whether some program begins with these tokens
unfoldable pub is_front : List Token → Bool
is_front ts = takes_all (reading program ts)

-- whether a program was read, and no token is left
abbrev pub gives_all : Reading Program → Bool
gives_all (got p []) = true
gives_all (got p (t ∷ ts)) = false
gives_all (stopped ts) = false
gives_all spent = false

-- whether these tokens are a program
unfoldable pub is_whole : List Token → Bool
is_whole ts = gives_all (reading program ts)

-- Texts --------------------------------------------------------------------------------------------------------

-- a token of a kind; of a number it has 2, which alone may stand behind `version`
abbrev pub token_of : Kind → Token
token_of j = record { kind = j; at = 0; end = 0; value = 2 }

-- the tokens of bytes, and one of a kind behind them, each as the version of the text has it that begins so
abbrev pub tokens_and : (bytes : List ℕ) → Kind → List Token
tokens_and bytes j = versioned (numbered_of bytes ++ token_of j ∷ [])

-- whether it could stand behind bytes
abbrev pub could_stand : (bytes : List ℕ) → Next → Bool
could_stand bytes (n.Token j) = is_front (tokens_and bytes j)
could_stand bytes n.End = is_whole (words_of bytes)

-- a token of each of these kinds
abbrev pub of_kinds : List (List ℕ × Kind) → List Next
of_kinds table = map (λ s. n.Token s.1) table

-- a name, a number, each keyword and each sign in the order of the table, and the end of the text
abbrev pub candidates : List Next
candidates = n.Token k.Name ∷ n.Token k.Number ∷ (of_kinds spellings ++ n.End ∷ [])

-- What could stand behind bytes; nothing where they have no tokens.
unfoldable pub following : (bytes : List ℕ) → List Next
following bytes = filter (λ next. is_ok (tokens_of bytes) && could_stand bytes next) candidates

-- What could stand at a place of a text.
abbrev pub expected : (bytes : List ℕ) (at : ℕ) → List Next
expected bytes at = following (take at bytes)
