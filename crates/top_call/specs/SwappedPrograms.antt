-- What is said of the programs that the lines of `swap` are on.
use Rattle.std.specs.Prelude.{◌≡◌, ℕ, List, [], ◌∷◌, codes, Some}
use Rattle.call_inputs.specs.Programs.{SpellsProgram}
use Rattle.call_judge.specs.Meaning.{AreNamesInOrder}
use Rattle.call_verdicts.specs.Swap.{SwapInput, lines_by, replacements}
use Rattle.cov_ast.specs.Syntax.{Parsed}
use Rattle.cov_io.specs.Shelves.{File, held}
use Rattle.policy_class.specs.Resolved.{resolved}
use Rattle.thread_swap.specs.Judges.{Judging}
use Rattle.thread_swap.specs.SwapLines.{AreSecureIfAccepted, swapped_programs}

-- A file holds the text of a program, or of threads.
pub record HoldsText (files : List File) (name : List ℕ) (p : Parsed) : Type 0 where
  pub bytes : List ℕ
  pub at : held files name ≡ Some bytes
  pub spelled : SpellsProgram bytes p

-- Of a program and of threads that replace its own, each line that `swap` puts and that accepts, by what a judge says, is on a program that is
-- secure.
abbrev pub HoldsSwapped : Judging → List File → (words : List (List ℕ)) → Type 0
HoldsSwapped j files words =
    (name replacing : List ℕ) → words ≡ codes "swap" ∷ name ∷ replacing ∷ []
    → (i : SwapInput) × HoldsText files name i.program × HoldsText files replacing i.replacing × AreNamesInOrder i.program
    × AreSecureIfAccepted (lines_by j i) (swapped_programs (resolved i.program) (replacements i))
