-- What a text may hide from who reads it in an editor: characters that show as another text, or as none. A line ends at a line
-- feed alone, and a comment with it.
use Rattle.std.specs.Prelude.{ℕ, zero, suc, ◌+◌, ◌==◌, ◌&&◌, ◌||◌, nat_le, nat_lt, List, [], ◌∷◌, ◌++◌, length, Bool, if◌then◌else◌, Option, Some, None}
use Rattle.explain.specs.Unused.{warned}
use Rattle.explain.specs.declared.hidden.TheConstants.{MOST_SHOWN}
use Rattle.explain.specs.declared.warning.Warning.{Warning}
use Rattle.explain.specs.declared.warning.Cause.{Cause}
use Rattle.explain.specs.declared.warning.Cause.TheVariants as c

abbrev pub is_within : (first last b : ℕ) → Bool
is_within first last b = nat_le first b && nat_le b last

-- behind a carriage return
abbrev pub after_return : List ℕ → Option Cause
after_return [] = Some c.LoneReturn
after_return (b ∷ bs) = if b == 10 then None else Some c.LoneReturn

-- behind 194: U+0080 to U+009F, control characters
abbrev pub after_194 : List ℕ → Option Cause
after_194 [] = None
after_194 (b ∷ bs) = if is_within 128 159 b then Some (c.Control b) else None

-- behind 216: U+061C, the Arabic letter mark
abbrev pub after_216 : List ℕ → Option Cause
after_216 [] = None
after_216 (b ∷ bs) = if b == 156 then Some c.Direction else None

-- behind 226 and 128: U+200E and U+200F, marks of a direction, U+202A to U+202E, embeddings and overrides, and U+2028 and U+2029,
-- the separators of lines and of paragraphs
abbrev pub after_226_128 : List ℕ → Option Cause
after_226_128 [] = None
after_226_128 (b ∷ bs) =
    if is_within 142 143 b || is_within 170 174 b then Some c.Direction else (if is_within 168 169 b then Some c.Separator else None)

-- behind 226 and 129: U+2066 to U+2069, isolates
abbrev pub after_226_129 : List ℕ → Option Cause
after_226_129 [] = None
after_226_129 (b ∷ bs) = if is_within 166 169 b then Some c.Direction else None

abbrev pub after_226 : List ℕ → Option Cause
after_226 [] = None
after_226 (b ∷ bs) = if b == 128 then after_226_128 bs else (if b == 129 then after_226_129 bs else None)

-- by the first byte of a character and the bytes behind it; of control characters tab and line feed are fine
abbrev pub by_first : (first : ℕ) (rest : List ℕ) → Option Cause
by_first first rest =
    if first == 13 then after_return rest
    else (if first == 9 || first == 10 then None
    else (if nat_lt first 32 || first == 127 then Some (c.Control first)
    else (if first == 194 then after_194 rest
    else (if first == 216 then after_216 rest
    else (if first == 226 then after_226 rest else None)))))

-- what stands at the front of a text, in UTF-8, that an editor may show as another text
abbrev pub at_front : List ℕ → Option Cause
at_front [] = None
at_front (b ∷ bs) = by_first b bs

abbrev pub at_place : ℕ → Option Cause → List Warning
at_place place None = []
at_place place (Some cause) = warned place cause ∷ []

-- all of it, in bytes from a place on
abbrev pub hidden_from : (place : ℕ) → List ℕ → List Warning
hidden_from place [] = []
hidden_from place (b ∷ bs) = at_place place (at_front (b ∷ bs)) ++ hidden_from (place + 1) bs

-- so many at most, and where more come, how many more there are, at the first of these
abbrev pub listed : (room : ℕ) → List Warning → List Warning
listed room [] = []
listed zero (w ∷ ws) = warned w.place (c.More (length (w ∷ ws))) ∷ []
listed (suc room) (w ∷ ws) = w ∷ listed room ws

-- what is warned of in bytes
abbrev pub text_warnings : List ℕ → List Warning
text_warnings bytes = listed MOST_SHOWN (hidden_from 0 bytes)
