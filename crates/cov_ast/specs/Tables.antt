-- Sets of numbers below a bound, as a truth value for each.
use Rattle.std.specs.Prelude.{ℕ, List, [], ◌∷◌, Bool, true, false, map, get_or, set, if◌then◌else◌, Option, Some, None}
use Rattle.std.specs.List.{range_with_len}

-- the set of the numbers that pass a test
abbrev pub table : (bound : ℕ) → (ℕ → Bool) → List Bool
table bound test = map test (range_with_len 0 bound)

-- a number past the bound is in no set
abbrev pub has : List Bool → ℕ → Bool
has marks x = get_or marks x false

-- with further numbers, those past the bound left out
abbrev pub with_all : List Bool → List ℕ → List Bool
with_all marks [] = marks
with_all marks (x ∷ xs) = with_all (set marks x true) xs

-- the first of a list that isn't in a set
abbrev pub first_outside : List Bool → List ℕ → Option ℕ
first_outside marks [] = None
first_outside marks (x ∷ xs) = if has marks x then first_outside marks xs else Some x
