-- The brace to which a token mostly belongs with which no program goes on, in plain words: one line.
--
-- Braces are those of tokens: what stands in comments doesn't count.
use Rattle.std.specs.Prelude.{ℕ, ◌+◌, ◌-◌, ◌==◌, List, [], ◌∷◌, ◌++◌, length, take, drop, Bool, false, true, ◌||◌, Option, Some, None, codes, decimal, if◌then◌else◌}
use Rattle.std.specs.List.{take_while}
use Rattle.std.specs.Str.{bytes_eq}
use Rattle.cov_expr.specs.Bytes.{is_word}
use Rattle.cov_expr.specs.declared.kind.Kind.TheVariants as k
use Rattle.cov_grammar.specs.LookAhead.{kind_is}
use Rattle.cov_grammar.specs.declared.token.Token.{Token}
use Rattle.cov_text.specs.Text.{words_of}
use Rattle.text_parts.specs.Lines.{line}

-- Braces -------------------------------------------------------------------------------------------------------

-- of tokens that stand behind others: how many `}` close a `{` of the others, and the place of the last `{` that none of them closes
pub record Braces : Type 0 where
  pub closing : ℕ
  pub place : Option ℕ

-- a place, or another where there is none
abbrev pub or_place : Option ℕ → (at : ℕ) → Option ℕ
or_place None at = Some at
or_place (Some place) at = Some place

-- with a `{` in front of them, at a place
abbrev pub opened : (at : ℕ) → Braces → Braces
opened at bs =
    if bs.closing == 0 then record { closing = 0; place = or_place bs.place at } else record { closing = bs.closing - 1; place = bs.place }

-- with a `}` in front of them
abbrev pub closed : Braces → Braces
closed bs = record { closing = bs.closing + 1; place = bs.place }

-- with a token in front of them
abbrev pub with_token : Token → Braces → Braces
with_token t bs =
    if kind_is k.OpenBrace t.kind then opened t.at bs
    else (if kind_is k.CloseBrace t.kind then closed bs else bs)

-- those of tokens
abbrev pub braces : List Token → Braces
braces [] = record { closing = 0; place = None }
braces (t ∷ ts) = with_token t (braces ts)

-- the place of the innermost `{` that is open behind tokens
abbrev pub open_brace : List Token → Option ℕ
open_brace ts = (braces ts).place

-- whether the last of tokens is a `}`, or one in front of them where there are none
abbrev pub ends_closed : (before : Bool) → List Token → Bool
ends_closed before [] = before
ends_closed before (t ∷ ts) = ends_closed (kind_is k.CloseBrace t.kind) ts

-- all of them but the last
abbrev pub all_but_last : List Token → List Token
all_but_last ts = take (length ts - 1) ts

-- Lines --------------------------------------------------------------------------------------------------------

-- the line of a place, between words
abbrev pub line_text : (front back bytes : List ℕ) (place : ℕ) → List ℕ
line_text front back bytes place = front ++ decimal (line bytes place) ++ back

-- that a `{` is open, by its place
abbrev pub open_text : (bytes : List ℕ) (place : ℕ) → List ℕ
open_text bytes place = line_text (codes "  a `}` may be missing: the `{` of line ") (codes " is open here\n") bytes place

abbrev pub open_line : (bytes : List ℕ) → Option ℕ → List ℕ
open_line bytes None = []
open_line bytes (Some place) = open_text bytes place

-- that a `}` in front of an `else` closes a `{`, by the place of that
abbrev pub closed_text : (bytes : List ℕ) (place : ℕ) → List ℕ
closed_text bytes place =
    line_text (codes "  the `}` in front of it closes the `{` of line ") (codes ", to which no `else` belongs: a `}` may be missing between them\n") bytes place

abbrev pub closed_line : (bytes : List ℕ) → Option ℕ → List ℕ
closed_line bytes None = []
closed_line bytes (Some place) = closed_text bytes place

-- of an `else`, by the tokens in front of it
abbrev pub else_line : (bytes : List ℕ) → List Token → List ℕ
else_line bytes ts = if ends_closed false ts then closed_line bytes (open_brace (all_but_last ts)) else open_line bytes (open_brace ts)

-- whether a declaration begins with a word, which no block has
abbrev pub begins_declared : List ℕ → Bool
begins_declared word = bytes_eq word (codes "thread") || (bytes_eq word (codes "lock") || (bytes_eq word (codes "var") || bytes_eq word (codes "level")))

-- whether a text ends, or goes on with a word with which a declaration begins
abbrev pub is_outside : (rest : List ℕ) → Bool
is_outside [] = true
is_outside (b ∷ bs) = begins_declared (take_while is_word (b ∷ bs))

-- by the text from a token on, and the tokens in front of it
abbrev pub brace_line_of : (bytes rest : List ℕ) → List Token → List ℕ
brace_line_of bytes rest ts =
    if is_outside rest then open_line bytes (open_brace ts)
    else (if bytes_eq (take_while is_word rest) (codes "else") then else_line bytes ts else [])

-- What is told of braces at the place of a token with which no program goes on: of an `else` the `{` that the `}` in front of it closes; of another, of
-- a declaration, and of the end of the text the innermost `{` that is open there. Nothing is told of other tokens.
abbrev pub brace_line : (bytes : List ℕ) (at : ℕ) → List ℕ
brace_line bytes at = brace_line_of bytes (drop at bytes) (words_of (take at bytes))
