-- A byte that begins no token, in plain words, with how what is often meant by it is written.
use Rattle.std.specs.Prelude.{ℕ, ◌==◌, nat_le, List, [], ◌∷◌, ◌++◌, Bool, false, ◌&&◌, codes, if◌then◌else◌}

abbrev pub is_upper : ℕ → Bool
is_upper b = nat_le 65 b && nat_le b 90

-- how a comparison is written that has the greater side first, by what stands behind its first byte
abbrev pub greater_hint : (others : List ℕ) → List ℕ
greater_hint [] = codes "; `a > b` is written `b < a`"
greater_hint (b ∷ bs) = if b == 61 then codes "; `a >= b` is written `b <= a`" else codes "; `a > b` is written `b < a`"

-- whether a text goes on as a byte order mark does behind its first byte
abbrev pub is_mark_behind : (others : List ℕ) → Bool
is_mark_behind [] = false
is_mark_behind (b ∷ []) = false
is_mark_behind (b ∷ c ∷ cs) = b == 187 && c == 191

-- by a byte and what stands behind it: `>`, `=`, `/`, a capital letter, a byte order mark; of others nothing
abbrev pub hint_of : (first : ℕ) → (others : List ℕ) → List ℕ
hint_of b others =
    if b == 62 then greater_hint others
    else if b == 61 then codes "; an assignment is written `x := e`, and that two are equal `a == b`"
    else if b == 47 then codes "; a comment begins with `//`, and nothing is divided"
    else if is_upper b then codes "; names and words have small letters"
    else if b == 239 && is_mark_behind others then codes "; it is that of a byte order mark, without which the text is to be saved"
    else []

abbrev pub byte_hint : (rest : List ℕ) → List ℕ
byte_hint [] = []
byte_hint (b ∷ bs) = hint_of b bs

-- the sentence, by the text from the byte on
abbrev pub byte_sentence : (rest : List ℕ) → List ℕ
byte_sentence rest = codes "this byte begins no token, blank or comment" ++ byte_hint rest
