-- Which level lies below which, and which levels an observer sees.
use Rattle.std.specs.Prelude.{ℕ, ◌==◌, ◌||◌, List, [], ◌∷◌, ◌++◌, length, get_or, Bool}
use Rattle.std.specs.List.{Contains, list_any}
use Rattle.cov_ast.specs.Tables.{table, has}
use Rattle.level_text.specs.Lattice.{Levels}

-- The order -----------------------------------------------------------------------------------------------------

-- The first level lies at or below the second: the least relation that is reflexive and transitive and has each declared pair.
pub data IsBelow (below : List (List ℕ)) : ℕ → ℕ → Type 0 where
  itself : (a : ℕ) → IsBelow below a a
  pair : (a b : ℕ) → Contains (get_or below b []) a → IsBelow below a b
  onward : (a b c : ℕ) → IsBelow below a b → IsBelow below b c → IsBelow below a c

-- The same as truth values --------------------------------------------------------------------------------------

-- whether a level lies at or below one of others, of which each has a row with a truth value for each level
abbrev pub is_in_row : List (List Bool) → (a b : ℕ) → Bool
is_in_row rows a b = has (get_or rows b []) a

-- the row of the next level: it lies at or below itself, and so does what lies at or below one that it is declared above
abbrev pub next_row : (count : ℕ) → (rows : List (List Bool)) → (lower : List ℕ) → List Bool
next_row count rows lower = table count (λ a. a == length rows || list_any (is_in_row rows a) lower)

-- the rows, with those of further levels
abbrev pub rows_onto : (count : ℕ) → (rows : List (List Bool)) → List (List ℕ) → List (List Bool)
rows_onto count rows [] = rows
rows_onto count rows (lower ∷ rest) = rows_onto count (rows ++ next_row count rows lower ∷ []) rest

abbrev pub rows_of : Levels → List (List Bool)
rows_of l = rows_onto (length l.names) [] l.below

-- the levels that an observer at a level sees: those at or below it
abbrev pub seen_by : Levels → (observer : ℕ) → List Bool
seen_by l observer = get_or (rows_of l) observer []
