-- The second half of the headline: what is put of the code of a file that is accepted. The first half is `HoldsSecure` of `check_call`.
use Rattle.std.specs.Prelude.{◌≡◌, ℕ, List, [], ◌∷◌, codes, Some, Ok}
use Rattle.cov_grammar.specs.PlacedTrees as trees
use Rattle.cov_io.specs.Shelves.{File, held}
use Rattle.cov_io.specs.Sinks.{Sunk, Writes}
use Rattle.cov_text.specs.Text.{program_of}
use Rattle.code_text.specs.Listing.{IsListingOf}
use Rattle.compiled_code.specs.GoodCode.{IsGoodCode}
use Rattle.policy_class.specs.Resolved.{resolved}
use Rattle.object_code.specs.Object.{IsObjectOf}
use Rattle.risc_machine.specs.Faults.{AreGood}
use Rattle.risc_machine.specs.declared.parts.Parts.{Parts}
use Rattle.call_judge.specs.Meaning.{AreNamesInOrder}
use Rattle.call_inputs.specs.Programs.{SpellsTree}

-- What is put tells a code, to which no fault applies, and a file holds a program for which this code is good: each
-- run of the code is a run of the program, from any two fit starts, under every schedule, two runs of the code agree after each
-- step, and small bodies load few times.
pub record PutsGoodCode (Tells : Parts → List ℕ → Type 0) (files : List File) (name : List ℕ) (before after : Sunk) : Type 0 where
  pub bytes : List ℕ
  pub at : held files name ≡ Some bytes
  pub tree : trees.Program
  pub spelled : SpellsTree bytes tree
  pub named : AreNamesInOrder (program_of bytes tree)
  pub code : Parts
  pub is_code : AreGood code
  pub good : IsGoodCode (resolved (program_of bytes tree)) code
  pub text : List ℕ
  pub tells : Tells code text
  pub put : Writes before after text (Ok tt)

-- What `compile` puts is the listing of the code of the file that it names.
abbrev pub PutsCode : List File → (words : List (List ℕ)) → (before after : Sunk) → Type 0
PutsCode files words before after = (name : List ℕ) → words ≡ codes "compile" ∷ name ∷ [] → PutsGoodCode IsListingOf files name before after

-- What `object` puts is the object of the code of the file that it names.
abbrev pub PutsObject : List File → (words : List (List ℕ)) → (before after : Sunk) → Type 0
PutsObject files words before after = (name : List ℕ) → words ≡ codes "object" ∷ name ∷ [] → PutsGoodCode IsObjectOf files name before after
