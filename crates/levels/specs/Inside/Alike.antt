-- Two observers are shown the same.
use Rattle.std.specs.Prelude.{◌≡◌, ℕ, ◌<◌, List, [], ◌∷◌, get_or, map, Bool}
use Rattle.cov_ast.specs.Syntax.{Program, Var}
use Rattle.level_text.specs.Lattice.{LevelClass, Levels}
use Rattle.levels.specs.Projection.{mark_of, shown, shown_class}

-- The same numbers stand for markers among variables.
abbrev pub HaveMarksAlike : (one two : List Bool) → (names : List (List ℕ)) → List Var → Type 0
HaveMarksAlike one two names vars = map (mark_of one names) vars ≡ map (mark_of two names) vars

-- The classes of listed variables are the same.
abbrev pub HaveClassesAlike : (one two : List Bool) → List (ℕ × LevelClass) → Type 0
HaveClassesAlike one two [] = Unit {0}
HaveClassesAlike one two (c ∷ cs) = (shown_class one c.1 ≡ shown_class two c.1) × HaveClassesAlike one two cs

-- An observer in front of one is shown the same, by what each of them sees.
abbrev pub IsShownBefore : (rows : List (List Bool)) → Levels → Program → (observer : ℕ) → Type 0
IsShownBefore rows l p observer = (before : ℕ) × (before < observer) × (shown (get_or rows before []) l p ≡ shown (get_or rows observer []) l p)
