-- Blanks and signs.
use Rattle.std.specs.Prelude.{ℕ, List, length, map, Bool, not, ◌==◌, ◌||◌}
use Rattle.std.specs.List.{list_any, filter}
use Rattle.std.specs.Str.{bytes_eq}
use Rattle.cov_expr.specs.Spellings.{spellings, begins_with_letter}

-- space, tab, line feed, carriage return
abbrev pub is_blank : ℕ → Bool
is_blank b = b == 32 || b == 9 || b == 10 || b == 13

-- the spellings that aren't words: the signs
unfoldable pub signs : List (List ℕ)
signs = filter (λ text. not (begins_with_letter text)) (map (λ s. s.0) spellings)

-- the signs of two bytes, and those of one; there is no other
unfoldable pub doubles : List (List ℕ)
doubles = filter (λ text. length text == 2) signs

unfoldable pub singles : List (List ℕ)
singles = filter (λ text. length text == 1) signs

-- whether a text is a sign
abbrev pub is_sign : List ℕ → Bool
is_sign text = list_any (bytes_eq text) signs
