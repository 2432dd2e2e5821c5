-- What could stand at a place, in plain words: one line, and in front of it one that says that a `;` may be missing.
use Rattle.std.specs.Prelude.{ℕ, ◌==◌, List, [], ◌∷◌, ◌++◌, take, drop, Bool, true, false, ◌&&◌, ◌||◌, flat_map, codes, if◌then◌else◌}
use Rattle.std.specs.List.{list_any}
use Rattle.cov_expr.specs.Bytes.{is_lower}
use Rattle.cov_expr.specs.Spellings.{spellings}
use Rattle.cov_expr.specs.declared.kind.Kind.{Kind}
use Rattle.cov_expr.specs.declared.kind.Kind.TheVariants as k
use Rattle.cov_grammar.specs.LookAhead.{kind_is}
use Rattle.cov_grammar.specs.declared.token.Token.{Token}
use Rattle.cov_text.specs.Text.{words_of}
use Rattle.explain.specs.ExpectedTokens.{expected}
use Rattle.explain.specs.declared.next.Next.{Next}
use Rattle.explain.specs.declared.next.Next.TheVariants as n

-- the first of these spellings that is of a kind
abbrev pub spelling_among : List (List ℕ × Kind) → Kind → List ℕ
spelling_among [] j = []
spelling_among (s ∷ ss) j = if kind_is s.1 j then s.0 else spelling_among ss j

-- the spelling of a keyword or a sign
unfoldable pub spelling_of : Kind → List ℕ
spelling_of j = spelling_among spellings j

-- a number: behind `version` 2 is the one that could stand there
abbrev pub number_phrase : (of_version : Bool) → List ℕ
number_phrase of_version = if of_version then codes "the number 2" else codes "a number"

-- a token of a kind: a keyword or a sign by its spelling
abbrev pub kind_phrase : (of_version : Bool) → Kind → List ℕ
kind_phrase of_version j =
    if kind_is k.Name j then codes "a name"
    else (if kind_is k.Number j then number_phrase of_version
    else codes "`" ++ spelling_of j ++ codes "`")

abbrev pub phrase : (of_version : Bool) → Next → List ℕ
phrase of_version (n.Token j) = kind_phrase of_version j
phrase of_version n.End = codes "the end of the text"

-- what else could stand there
abbrev pub other : (of_version : Bool) → Next → List ℕ
other of_version next = codes ", " ++ phrase of_version next

-- what a line begins with
unfoldable pub line_front : List ℕ
line_front = codes "  here could stand: "

-- a line of what could stand at a place; none where nothing could
abbrev pub line_of : (of_version : Bool) → List Next → List ℕ
line_of of_version [] = []
line_of of_version (next ∷ others) = line_front ++ phrase of_version next ++ flat_map (other of_version) others ++ codes "\n"

-- whether tokens are `version` alone
abbrev pub are_version : List Token → Bool
are_version [] = false
are_version (t ∷ []) = kind_is k.Version t.kind
are_version (t ∷ u ∷ us) = false

-- A missing semicolon -----------------------------------------------------------------------------------------

abbrev pub is_semicolon : Next → Bool
is_semicolon (n.Token j) = kind_is k.Semicolon j
is_semicolon n.End = false

-- whether a text ends, or begins with a word or with `}`, which is the byte 125, as what stands behind a statement does
abbrev pub begins_behind : (rest : List ℕ) → Bool
begins_behind [] = true
begins_behind (b ∷ bs) = is_lower b || b == 125

abbrev pub semicolon_text : List ℕ
semicolon_text = codes "  a `;` may be missing in front of it\n"

-- by the text from a token on, and what could stand in its place
abbrev pub semicolon_line : (rest : List ℕ) → List Next → List ℕ
semicolon_line rest nexts = if begins_behind rest && list_any is_semicolon nexts then semicolon_text else []

-- All ----------------------------------------------------------------------------------------------------------

-- by the text from a token on: that a `;` may be missing, and a line of all that could stand in its place; none where nothing could
abbrev pub lines_of : (of_version : Bool) → (rest : List ℕ) → List Next → List ℕ
lines_of of_version rest nexts = semicolon_line rest nexts ++ line_of of_version nexts

-- the lines of a place of a text
abbrev pub expected_line : (bytes : List ℕ) (at : ℕ) → List ℕ
expected_line bytes at = lines_of (are_version (words_of (take at bytes))) (drop at bytes) (expected bytes at)
