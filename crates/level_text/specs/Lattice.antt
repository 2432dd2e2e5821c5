-- Levels of observers as data: their names, which is declared to lie above which, and the classes of variables over them.
--
-- Levels are named by number, in the order of their declarations.
use Rattle.std.specs.Prelude.{◌≡◌, ℕ, ◌<◌, ◌≤◌, ◌==◌, List, [], length, get_or, IsTrue, All}
use Rattle.std.specs.Str.{bytes_eq}
use Rattle.cov_expr.specs.Term.{Term}
use Rattle.cov_expr.specs.Words.{HasVarsBelow, HasWords}
use Rattle.cov_ast.specs.WellFormed.{are_distinct}
use Rattle.level_text.specs.declared.lattice.TheConstants.{MOST_LEVELS}

-- What may be learnt of a variable: a level may, and each above it; or, while an expression holds, a first level, and else a
-- second one.
pub data LevelClass : Type 0 where
  at_level : ℕ → LevelClass
  either_level : Term → (yes no : ℕ) → LevelClass

-- The names of the levels; for each of them those that it is declared to lie above, which are declared earlier; and the classes
-- of the variables that are listed.
pub record Levels : Type 0 where
  pub names : List (List ℕ)
  pub below : List (List ℕ)
  pub classes : List (ℕ × LevelClass)

-- a class of levels below a first bound, with variables below a second
abbrev pub IsClassWithin : (levels vars : ℕ) → LevelClass → Type 0
IsClassWithin levels vars (at_level b) = b < levels
IsClassWithin levels vars (either_level e b c) = HasVarsBelow e vars × HasWords e × (b < levels) × (c < levels)

-- Levels over so many variables: there is one at least, and no more than there may be, with different names; each is declared above earlier ones alone;
-- classes are of these levels and variables; and no variable is listed twice.
pub record AreLevels (vars : ℕ) (l : Levels) : Type 0 where
  pub some : 1 ≤ length l.names
  pub few : length l.names ≤ MOST_LEVELS
  pub names_differ : IsTrue (are_distinct bytes_eq l.names)
  pub complete : length l.below ≡ length l.names
  pub earlier : (b : ℕ) → All (λ a. a < b) (get_or l.below b [])
  pub of_variables : All (λ c. c.0 < vars) l.classes
  pub of_levels : All (λ c. IsClassWithin (length l.names) vars c.1) l.classes
  pub listed_once : IsTrue (are_distinct (λ c d. c.0 == d.0) l.classes)
