-- What is said of a program that is accepted for the observer at each of some levels.
use Rattle.std.specs.Prelude.{◌≡◌, ℕ, List, [], ◌∷◌, codes, Some}
use Rattle.call_judge.specs.Meaning.{AreNamesInOrder}
use Rattle.call_verdicts.specs.Levels.{LevelsInput}
use Rattle.cov_io.specs.Shelves.{File, held}
use Rattle.level_text.specs.LevelReads.{GivesLevels}
use Rattle.levels.specs.Accepted.{IsSecureForAll}
use Rattle.policy_class.specs.Resolved.{resolved}
use Rattle.top_call.specs.SwappedPrograms.{HoldsText}

-- A file holds a text that gives levels for a program.
pub record HoldsLevels (files : List File) (name : List ℕ) (i : LevelsInput) : Type 0 where
  pub bytes : List ℕ
  pub at : held files name ≡ Some bytes
  pub given : GivesLevels bytes i.program i.levels

-- What `levels` accepts is secure as the observer at each level is shown it.
abbrev pub HoldsSecureForAll : List File → (words : List (List ℕ)) → Type 0
HoldsSecureForAll files words =
    (name over : List ℕ) → words ≡ codes "levels" ∷ name ∷ over ∷ []
    → (i : LevelsInput) × HoldsText files name i.program × HoldsLevels files over i × AreNamesInOrder i.program
    × IsSecureForAll i.levels (resolved i.program)
