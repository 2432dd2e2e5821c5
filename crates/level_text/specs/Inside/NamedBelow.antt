-- The names of a text of levels have numbers below the count of its names.
use Rattle.std.specs.Prelude.{ℕ, ◌<◌, List, Option, Some, None, All}
use Rattle.cov_expr.specs.Term.{Term}
use Rattle.cov_expr.specs.Words.{HasVarsBelow}
use Rattle.cov_grammar.specs.declared.token.Token.{Token}
use Rattle.cov_grammar.specs.PlacedTrees.{Placed, Named}
use Rattle.level_text.specs.TextTrees.{Listing, LevelText}
use Rattle.level_text.specs.TextFaults.{variables_of}

abbrev pub IsChoiceBelow : ℕ → Option (Placed Term × Named) → Type 0
IsChoiceBelow n None = Unit {0}
IsChoiceBelow n (Some x) = HasVarsBelow x.0.1 n

abbrev pub IsListingBelow : ℕ → Listing → Type 0
IsListingBelow n c = (c.var.0 < n) × IsChoiceBelow n c.choice

pub record AreNamedBelow (n : ℕ) (ts : List Token) (t : LevelText) : Type 0 where
  pub levels : All (λ v. v.name.0 < n) t.levels
  pub listings : All (IsListingBelow n) t.listings
  pub variables : All (λ x. x.0 < n) (variables_of ts)
