-- What a text looks like around a place: its line, and a caret under the place.
use Rattle.std.specs.Prelude.{ℕ, ◌-◌, ◌==◌, ◌&&◌, ◌||◌, nat_lt, List, ◌++◌, length, map, take, drop, codes, if◌then◌else◌}
use Rattle.text_parts.specs.Lines.{since_feed, to_feed}
use Rattle.text_parts.specs.declared.excerpt.TheConstants.{MOST_BEFORE, MOST_SHOWN}

-- the line up to the place; of a long one its end
abbrev pub line_front : (bytes : List ℕ) (place : ℕ) → List ℕ
line_front bytes place = let all = since_feed (take place bytes) in drop (length all - MOST_BEFORE) all

-- the line from the place on; of a long one its front, as far as there is room
abbrev pub line_rest : (bytes : List ℕ) (place : ℕ) → List ℕ
line_rest bytes place = take (MOST_SHOWN - length (line_front bytes place)) (to_feed (drop place bytes))

-- A byte as it is shown. A tab stays. Of the other control characters of ASCII, which could change how the line looks, each is a space, and
-- of the bytes of other characters, among which are such that turn the direction of text, each is a question mark: every byte has one place,
-- and the caret stands under its own.
abbrev pub shown : ℕ → ℕ
shown b =
    if nat_lt b 32 && nat_lt 9 b || nat_lt b 9 || b == 127 then 32
    else (if nat_lt 127 b then 63 else b)

-- what stands under a byte: a tab under a tab, and else a space
abbrev pub under : ℕ → ℕ
under b = if b == 9 then 9 else 32

-- two lines: the line of the place, cut where it is long, and a caret under the place
abbrev pub excerpt : (bytes : List ℕ) (place : ℕ) → List ℕ
excerpt bytes place =
    map shown (line_front bytes place) ++ map shown (line_rest bytes place) ++ codes "\n" ++ map under (line_front bytes place) ++ codes "^\n"
