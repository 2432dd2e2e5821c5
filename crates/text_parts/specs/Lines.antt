-- The lines of a text, and the line and the column of a place in it. A line feed ends a line.
use Rattle.std.specs.Prelude.{ℕ, ◌+◌, ◌==◌, List, [], ◌∷◌, length, reverse, take, Bool, if◌then◌else◌}

abbrev pub is_feed : ℕ → Bool
is_feed b = b == 10

-- how many line feeds there are
abbrev pub feeds : List ℕ → ℕ
feeds [] = 0
feeds (b ∷ bs) = if is_feed b then feeds bs + 1 else feeds bs

-- the bytes in front of the first line feed
abbrev pub to_feed : List ℕ → List ℕ
to_feed [] = []
to_feed (b ∷ bs) = if is_feed b then [] else b ∷ to_feed bs

-- the bytes behind the last line feed
abbrev pub since_feed : List ℕ → List ℕ
since_feed bytes = reverse (to_feed (reverse bytes))

-- the line of a place, counted from 1: as many line feeds as stand before it end the lines before its own
abbrev pub line : (bytes : List ℕ) (place : ℕ) → ℕ
line bytes place = feeds (take place bytes) + 1

-- the column of a place, counted from 1, by the bytes before it in its line; a tab is one
abbrev pub column : (bytes : List ℕ) (place : ℕ) → ℕ
column bytes place = length (since_feed (take place bytes)) + 1
