-- Which programs are accepted for every level, and what is answered of one.
use Rattle.std.specs.Prelude.{◌≡◌, ℕ, zero, suc, ◌<◌, ◌↔◌, length, Option, Some, None, Result, Ok, Err}
use Rattle.cov_ast.specs.Syntax.{Program}
use Rattle.cov_ast.specs.Plain.{plain}
use Rattle.cov_ast.specs.Obligations.{first_false}
use Rattle.cov_ast.specs.declared.refusal.Refusal.{Refusal}
use Rattle.flow_model.specs.Secure.{IsSecure}
use Rattle.typing_law.specs.declared.count.Count.{Count}
use Rattle.typing_law.specs.Accepted.{IsAccepted, program_obligations}
use Rattle.typing_law.specs.Verdicts.{counts}
use Rattle.levels.specs.declared.refusal.LevelRefusal.{LevelRefusal}
use Rattle.levels.specs.declared.refusal.LevelRefusal.TheVariants.{Refused, NoMemory}
use Rattle.level_text.specs.Lattice.{Levels}
use Rattle.levels.specs.Projection.{projected}

-- Acceptance ----------------------------------------------------------------------------------------------------

-- What each observer is shown is accepted.
abbrev pub IsAcceptedForAll : Levels → Program → Type 0
IsAcceptedForAll l p = (observer : ℕ) → observer < length l.names → IsAccepted (projected l observer p)

-- What each observer is shown is secure.
abbrev pub IsSecureForAll : Levels → Program → Type 0
IsSecureForAll l p = (observer : ℕ) → observer < length l.names → IsSecure (plain (projected l observer p))

-- The first level by declaration for which a program isn't accepted, and the first obligation that doesn't hold there.
pub record IsFirstRefused (l : Levels) (p : Program) (observer : ℕ) (refusal : Refusal) : Type 0 where
  pub level : observer < length l.names
  pub earlier : (other : ℕ) → other < observer → IsAccepted (projected l other p)
  pub first : first_false (program_obligations (projected l observer p)) ≡ Some refusal

-- The same as a function ----------------------------------------------------------------------------------------

module _ (l : Levels) (p : Program) where
  -- a level for which there is a refusal, or else what is refused later
  abbrev pub refused_or : (observer : ℕ) → Option Refusal → (later : Option (ℕ × Refusal)) → Option (ℕ × Refusal)
  refused_or observer None later = later
  refused_or observer (Some refusal) later = Some (observer, refusal)

  -- the first of so many levels, from one on, for which the program isn't accepted, and the first obligation that doesn't hold there
  abbrev pub refused_from : (observer left : ℕ) → Option (ℕ × Refusal)
  refused_from observer zero = None
  refused_from observer (suc left) = refused_or observer (first_false (program_obligations (projected l observer p))) (refused_from (suc observer) left)

  -- of all levels
  abbrev pub first_refused : Option (ℕ × Refusal)
  first_refused = refused_from 0 (length l.names)

  -- It is none where the program is accepted for every level, and else the first that is refused.
  pub record IsRefusedFirst : Type 0 where
    pub none : (first_refused ≡ None) ↔ IsAcceptedForAll l p
    pub some : (observer : ℕ) (refusal : Refusal) → (first_refused ≡ Some (observer, refusal)) ↔ IsFirstRefused l p observer refusal

-- What is answered ----------------------------------------------------------------------------------------------

-- The answer is that the program is accepted for every level, with its counts, which are the same for each level; or the first
-- refusal; unless memory ran out.
abbrev pub DecidesForAll : Levels → Program → Result Count LevelRefusal → Type 0
DecidesForAll l p (Ok count) = IsAcceptedForAll l p × ((observer : ℕ) → observer < length l.names → count ≡ counts (projected l observer p))
DecidesForAll l p (Err (Refused observer refusal)) = IsFirstRefused l p observer refusal
DecidesForAll l p (Err NoMemory) = Unit {0}
