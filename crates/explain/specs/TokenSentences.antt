-- A token with which no program goes on, in plain words.
use Rattle.std.specs.Prelude.{ℕ, ◌==◌, List, [], ◌∷◌, ◌++◌, Bool, false, not, ◌&&◌, ◌||◌, codes, if◌then◌else◌}
use Rattle.std.specs.List.{take_while}
use Rattle.std.specs.Str.{bytes_eq}
use Rattle.cov_expr.specs.Bytes.{is_lower, is_word}
use Rattle.cov_expr.specs.Spellings.{is_keyword}

-- what stands in front of a word in its sentence, and what stands behind it
abbrev pub word_front : List ℕ → List ℕ
word_front word = if is_keyword word then codes "`" else codes "no program goes on with the name `"

abbrev pub word_end : List ℕ → List ℕ
word_end word = if is_keyword word then codes "` is a reserved word, and no program goes on with it here" else codes "` here"

-- whether a word is that of a list of variables that only some write or read, and whether a declaration begins with it that stands in front of threads
abbrev pub is_mode : List ℕ → Bool
is_mode word = bytes_eq word (codes "nowrite") || bytes_eq word (codes "hide")

abbrev pub begins_declaration : List ℕ → Bool
begins_declaration word = bytes_eq word (codes "lock") || bytes_eq word (codes "var")

-- of a word, what the grammar asks for that is mostly overlooked: of `output` the version, of these words their order, and of `if` that `else` has a block
abbrev pub word_hint : List ℕ → List ℕ
word_hint word =
    if bytes_eq word (codes "output") then codes "; a text with outputs begins with `version 2;`"
    else if is_mode word then codes "; a lock has `nowrite`, then `hide`, then `inv`, and a thread `assume nowrite`, `assume hide`, `guarantee nowrite`, `guarantee hide`"
    else if begins_declaration word then codes "; variables are declared first, then locks, then threads"
    else if bytes_eq word (codes "if") then codes "; behind `else` stands a block: `else { if a { } else { } }`"
    else []

-- of a sign what is mostly meant: of `:`, but for that of `:=`, and of `-`
abbrev pub is_assigned : (others : List ℕ) → Bool
is_assigned [] = false
is_assigned (b ∷ bs) = b == 61

abbrev pub sign_hint : (first : ℕ) → (others : List ℕ) → List ℕ
sign_hint b others =
    if b == 58 && not (is_assigned others) then codes "; in a `join`, an `inv` and a `note` types stand behind `;`"
    else if b == 45 then codes "; no number is negative: `-1` is written `0 - 1`, which is 4294967295"
    else []

abbrev pub sign_sentence : (first : ℕ) → (others : List ℕ) → List ℕ
sign_sentence b others = codes "no program goes on with this token" ++ sign_hint b others

-- the sentence of a word
abbrev pub word_sentence : List ℕ → List ℕ
word_sentence word = word_front word ++ word ++ word_end word ++ word_hint word

-- the sentence of a token, by the text from it on
abbrev pub token_sentence : List ℕ → List ℕ
token_sentence [] = codes "the text ends here, and no program is whole"
token_sentence (b ∷ bs) = if is_lower b then word_sentence (take_while is_word (b ∷ bs)) else sign_sentence b bs
