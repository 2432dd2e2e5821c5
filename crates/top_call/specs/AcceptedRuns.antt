-- Whose runs never differ: those of a program that is accepted.
use Rattle.std.specs.Prelude.{◌≡◌, ℕ, List, [], ◌∷◌, codes, Some}
use Rattle.cov_ast.specs.Syntax.{Parsed}
use Rattle.cov_io.specs.Shelves.{File, held}
use Rattle.call_judge.specs.Check.{IsAcceptedText}
use Rattle.call_inputs.specs.Programs.{SpellsProgram}

-- A file holds a program that is accepted.
pub record HoldsAccepted (files : List File) (name : List ℕ) : Type 0 where
  pub bytes : List ℕ
  pub at : held files name ≡ Some bytes
  pub spelled : Parsed
  pub is : SpellsProgram bytes spelled
  pub accepted : IsAcceptedText spelled

-- The program that `pair` runs twice, and that `refute` tries, is accepted. Of `pair-code` and `big` nothing is asked: they run only what is
-- accepted.
pub record RunsAccepted (files : List File) (words : List (List ℕ)) : Type 0 where
  pub pair : (name first second schedule : List ℕ) → words ≡ codes "pair" ∷ name ∷ first ∷ second ∷ schedule ∷ [] → HoldsAccepted files name
  pub refute : (name number : List ℕ) → words ≡ codes "refute" ∷ name ∷ number ∷ [] → HoldsAccepted files name
