-- Which statements of a program are told of: all of them, or those that begin in one line of its text.
use Rattle.std.specs.Prelude.{ℕ, zero, suc, ◌-◌, ◌&&◌, nat_le, nat_lt, List, [], ◌∷◌, ◌++◌, Bool, true, if◌then◌else◌, Option, Some, None}
use Rattle.cov_ast.specs.Syntax.{Thread}
use Rattle.cov_ast.specs.WellFormed.{places}
use Rattle.text_parts.specs.Lines.{is_feed}
use Rattle.typing_trace.specs.declared.spots.Span.{Span}
use Rattle.typing_trace.specs.declared.spots.Spot.{Spot}

-- how many bytes the first lines of a text have, with the line feeds that end them; all of them where it has fewer lines
abbrev pub bytes_of_lines : (count : ℕ) → List ℕ → ℕ
bytes_of_lines count [] = 0
bytes_of_lines zero (b ∷ bs) = 0
bytes_of_lines (suc n) (b ∷ bs) = suc (bytes_of_lines (if is_feed b then n else suc n) bs)

-- the bytes of a line, counted from 1
abbrev pub span_of : (bytes : List ℕ) → (number : ℕ) → Span
span_of bytes number = record { from = bytes_of_lines (number - 1) bytes; to = bytes_of_lines number bytes }

-- whether a place is asked for: every one is, or those in some bytes
abbrev pub is_asked : Option Span → (at : ℕ) → Bool
is_asked None at = true
is_asked (Some s) at = nat_le s.from at && nat_lt at s.to

abbrev pub spot : (t at : ℕ) → Spot
spot t at = record { thread = t; place = at }

-- the statements of a thread that are asked for, in the order of the text
abbrev pub spots_in : Option Span → (t : ℕ) → List ℕ → List Spot
spots_in span t [] = []
spots_in span t (at ∷ rest) = if is_asked span at then spot t at ∷ spots_in span t rest else spots_in span t rest

-- those of threads, of which the first has this number
abbrev pub spots_of : Option Span → (t : ℕ) → List Thread → List Spot
spots_of span t [] = []
spots_of span t (thread ∷ threads) = spots_in span t (places thread.body) ++ spots_of span (suc t) threads
