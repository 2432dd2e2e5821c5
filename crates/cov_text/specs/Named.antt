-- Which numbers declarations are named by.
use Rattle.std.specs.Prelude.{ℕ, ◌<◌, All}
use Rattle.cov_grammar.specs.PlacedTrees.{Program}

-- Each declaration is named by the number of a name, of which there are so many.
pub record AreNamed (count : ℕ) (p : Program) : Type 0 where
  pub vars : All (λ v. v.name.0 < count) p.vars
  pub locks : All (λ l. l.name.0 < count) p.locks
  pub threads : All (λ h. h.name.0 < count) p.threads
