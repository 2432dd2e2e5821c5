-- Words of private contracts: what stands at the front of a text, with its kind. To believe what `lex` and `tokens` promise,
-- nothing here need be read.
use Rattle.std.specs.Prelude.{ℕ, ◌<◌, ◌≤◌, ◌==◌, nat_eq, List, [], ◌∷◌, take, slice_index, Bool, not, ◌&&◌, if◌then◌else◌, Option, Some, None, Result, Ok, Err}
use Rattle.cov_expr.specs.Bytes.{is_digit, is_lower, is_word}
use Rattle.cov_expr.specs.declared.kind.Kind.{Kind}
use Rattle.cov_expr.specs.declared.kind.Kind.TheVariants as k
use Rattle.cov_grammar.specs.declared.token.Token as grammar
use Rattle.cov_lex.specs.declared.token.Token.{Token}
use Rattle.cov_lex.specs.declared.token.TokenKind.{TokenKind}
use Rattle.cov_lex.specs.declared.token.TokenKind.TheVariants.{Keyword, Name, Number, Sign}
use Rattle.cov_lex.specs.declared.piece.Piece as rust
use Rattle.cov_lex.specs.declared.piece.Piece.TheVariants as code
use Rattle.cov_lex.specs.declared.piece.Class.{Class}
use Rattle.cov_lex.specs.declared.piece.Class.TheVariants.{Word, Digit, Line}
use Rattle.cov_lex.specs.declared.fault.LexFault.{LexFault}
use Rattle.cov_lex.specs.Lexing.{Piece, Gap, Part}
use Rattle.cov_lex.specs.Classified.{kind_of, number_value}

-- the bytes of a class of runs
abbrev pub is_in : Class → ℕ → Bool
is_in Word b = is_word b
is_in Digit b = is_digit b
is_in Line b = not (b == 10)

-- a piece at the front of a text, with its kind
abbrev pub with_kind : List ℕ → Result Piece LexFault → Result rust.Piece LexFault
with_kind text (Ok (Gap n)) = Ok (code.Gap n)
with_kind text (Ok (Part kind n)) = Ok (code.Part (kind_of kind (take n text)) (number_value kind) n)
with_kind text (Err fault) = Err fault

-- It has a byte, and no more than there are.
abbrev pub IsWithin : ℕ → rust.Piece → Type 0
IsWithin most (code.Gap n) = (0 < n) × (n ≤ most)
IsWithin most (code.Part kind value n) = (0 < n) × (n ≤ most)

-- what the lexer calls a token of a kind that begins with a byte
abbrev pub lexical_kind : Kind → (value first : ℕ) → TokenKind
lexical_kind k.Name value first = Name
lexical_kind k.Number value first = Number value
lexical_kind _ value first = if is_lower first then Keyword else Sign

-- a token of a text without its kind
abbrev pub lexical : List ℕ → grammar.Token → Token
lexical text t = record { kind = lexical_kind t.kind t.value (slice_index text t.at); at = t.at; end = t.end }

-- The spellings of one byte, and those of two.
abbrev pub ones : List (List ℕ × Kind) → List (ℕ × Kind)
ones [] = []
ones (([], j) ∷ ss) = ones ss
ones ((a ∷ [], j) ∷ ss) = (a, j) ∷ ones ss
ones ((a ∷ b ∷ rest, j) ∷ ss) = ones ss

abbrev pub twos : List (List ℕ × Kind) → List ((ℕ × ℕ) × Kind)
twos [] = []
twos (([], j) ∷ ss) = twos ss
twos ((a ∷ [], j) ∷ ss) = twos ss
twos ((a ∷ b ∷ [], j) ∷ ss) = ((a, b), j) ∷ twos ss
twos ((a ∷ b ∷ c ∷ rest, j) ∷ ss) = twos ss

abbrev pub kind_of_one : List (ℕ × Kind) → ℕ → Option Kind
kind_of_one [] a = None
kind_of_one (s ∷ ss) a = if nat_eq a s.0 then Some s.1 else kind_of_one ss a

abbrev pub kind_of_two : List ((ℕ × ℕ) × Kind) → (a b : ℕ) → Option Kind
kind_of_two [] a b = None
kind_of_two (s ∷ ss) a b = if nat_eq a s.0.0 && nat_eq b s.0.1 then Some s.1 else kind_of_two ss a b

-- the kinds of the signs of one byte, and of those of two that begin with no letter
abbrev pub one_kind : ℕ → Option Kind
one_kind a =
    kind_of_one
    ((33, k.Bang) ∷ (38, k.Ampersand) ∷ (40, k.OpenParen) ∷ (41, k.CloseParen) ∷ (42, k.Star) ∷ (43, k.Plus) ∷ (44, k.Comma) ∷ (45, k.Minus) ∷ (58, k.Colon) ∷ (59, k.Semicolon)
    ∷ (60, k.Less) ∷ (91, k.OpenBracket) ∷ (93, k.CloseBracket) ∷ (94, k.Caret) ∷ (95, k.Hole) ∷ (123, k.OpenBrace) ∷ (124, k.Bar) ∷ (125, k.CloseBrace) ∷ [])
    a

abbrev pub two_kind : (a b : ℕ) → Option Kind
two_kind a b =
    kind_of_two
    (((33, 61), k.Differs) ∷ ((38, 38), k.Both) ∷ ((58, 61), k.Assign) ∷ ((60, 61), k.AtMost) ∷ ((61, 61), k.Equal) ∷ ((124, 124), k.Either) ∷ [])
    a b
