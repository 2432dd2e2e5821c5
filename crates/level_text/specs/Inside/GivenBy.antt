-- What a text of levels gives, by a list of the ids of its names and by the numbers of its levels.
use Rattle.std.specs.Prelude.{ℕ, ◌==◌, List, get_or, Option, Some, None}
use Rattle.std.specs.List.{position_or_len}
use Rattle.cov_expr.specs.Term.{Term}
use Rattle.cov_expr.specs.Words.{HasWords}
use Rattle.cov_grammar.specs.PlacedTrees.{Placed, Named}
use Rattle.policy_class.specs.Resolved.{resolved_term}
use Rattle.level_text.specs.Lattice.{LevelClass, at_level, either_level}
use Rattle.level_text.specs.TextTrees.{Listing}

abbrev pub level_by : (declared : List ℕ) → ℕ → ℕ
level_by declared n = position_or_len (λ m. m == n) declared

module _ (ids : List ℕ) (count : ℕ) (declared : List ℕ) where
  abbrev pub id_by : ℕ → ℕ
  id_by n = get_or ids n count

  abbrev pub class_by : Named → Option (Placed Term × Named) → LevelClass
  class_by level None = at_level (level_by declared level.0)
  class_by level (Some x) = either_level (resolved_term id_by id_by x.0.1) (level_by declared level.0) (level_by declared x.1.0)

  abbrev pub listing_by : Listing → ℕ × LevelClass
  listing_by c = (id_by c.var.0, class_by c.level c.choice)

-- the expression of a class is of words
abbrev pub ClassHasWords : LevelClass → Type 0
ClassHasWords (at_level b) = Unit {0}
ClassHasWords (either_level e b c) = HasWords e
