-- Names that are known by hashing.
use Rattle.std.specs.Prelude.{◌≡◌, ℕ, List, ◌++◌, Option, None}
use Rattle.std.specs.List.{list_any}
use Rattle.std.specs.Str.{bytes_eq}
use Rattle.indexmap.specs.IndexSet.{IndexSet, contains}
use Rattle.risc_machine.specs.Faults.{repeated}

-- The set has each of these names, and no other.
abbrev pub AreKnown : {S : Type 0} → IndexSet (List ℕ) S → List (List ℕ) → Type 0
AreKnown set names = (f : List ℕ) → contains bytes_eq set f ≡ list_any (bytes_eq f) names

-- What was found among names is the first that equals an earlier one, be it one of those before. Where none does, all are known.
pub record IsFound {S : Type 0} (found : Option (List ℕ)) (before names : List (List ℕ)) (set : IndexSet (List ℕ) S) : Type 0 where
  pub first : found ≡ repeated before names
  pub known : found ≡ None → AreKnown set (before ++ names)
