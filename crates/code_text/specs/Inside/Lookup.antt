-- How names are looked up while a text is read.
use Rattle.std.specs.Prelude.{◌≡◌, ℕ, List, [], get_or, Option, Some, All}
use Rattle.std.specs.List.{list_any}
use Rattle.std.specs.Str.{bytes_eq}
use Rattle.cov_expr.specs.Names.{IsName}
use Rattle.indexmap.specs.IndexMap.{IndexMap, get}
use Rattle.indexmap.specs.IndexSet.{contains}
use Rattle.risc_machine.specs.Faults as faults
use Rattle.code_text.specs.Inside.ListingReading.{id_of}
use Rattle.code_text.specs.declared.names.Register.{Register}

-- The index has the id of each name: that of its first declaration.
pub record IsIndexOf {S : Type 0} (index : IndexMap (List ℕ) ℕ S) (names : List (List ℕ)) : Type 0 where
  pub are_names : All IsName names
  pub ids : (f : List ℕ) → get bytes_eq index f ≡ id_of names f

-- A guess, where there is one, is the id of the first declaration of the name that stands there.
abbrev pub IsGuess : List (List ℕ) → Option ℕ → Type 0
IsGuess names guess = (id : ℕ) → guess ≡ Some id → id_of names (get_or names id []) ≡ Some id

abbrev pub AreGuesses : List (Option ℕ) → List (List ℕ) → Type 0
AreGuesses guesses names = All (IsGuess names) guesses

-- The register has each of the names, and the first that equals an earlier one.
pub record IsRegisterOf (r : Register) (names : List (List ℕ)) : Type 0 where
  pub known : (f : List ℕ) → contains bytes_eq r.known f ≡ list_any (bytes_eq f) names
  pub first : r.repeated ≡ faults.repeated [] names
