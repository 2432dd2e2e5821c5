-- What a judge of threads means: what it says of a thread, whether that is what the rules say, and how many statements it has
-- judged.
use Rattle.std.specs.Prelude.{◌≡◌, ℕ, ◌+◌, ◌-◌, ◌<◌, ◌^◌, min, List, length, Bool, true, false, IsTrue, Option, Some, None, Result, Ok, Err}
use Rattle.cov_ast.specs.Syntax.{Var, Lock, Thread, Program}
use Rattle.cov_ast.specs.Obligations.{all_hold, first_false}
use Rattle.cov_ast.specs.WellFormed.{IsWellFormed}
use Rattle.cov_ast.specs.declared.refusal.Detail.{Detail}
use Rattle.cov_ast.specs.declared.refusal.Detail.TheVariants.{Nothing, One, Two, Three, Number}
use Rattle.cov_ast.specs.declared.refusal.Refusal.{Refusal}
use Rattle.cov_ast.specs.declared.refusal.Rule.{Rule}
use Rattle.cov_ast.specs.declared.refusal.Rule.TheVariants.{W1, W2, W3, W4, W5, W6, W7, W8, W9, V1, V2, V3, V4, V5, V6, V7, V8, V9, V10, V11, V12, V13, V14, V15, V16}
use Rattle.mode_compat.specs.Compatible.{numbered}
use Rattle.mode_compat.specs.Declared.{declaration_obligations}
use Rattle.typing_law.specs.Counts.{counts}
use Rattle.typing_law.specs.ThreadObligations.{thread_obligations}
use Rattle.typing_law.specs.declared.count.Count.{Count}

-- Counts -----------------------------------------------------------------------------------------------------------

-- where a count of 64 bits stands still
abbrev pub last_count : ℕ
last_count = 2 ^ 64 - 1

-- a count that rises by a number, or as far as it can
abbrev pub risen : ℕ → ℕ → ℕ
risen count by = count + min by (last_count - count)

-- What is said of a thread -------------------------------------------------------------------------------------------

-- how much was checked of a thread that is accepted, or why it is refused
abbrev pub Said : Type 0
Said = Result Count Refusal

-- refused for an obligation, if there is one that doesn't hold, else accepted with a count
abbrev pub said_by : Option Refusal → Count → Said
said_by None count = Ok count
said_by (Some refusal) count = Err refusal

-- what the rules say of a thread of a program, by its obligations (V1 to V16)
abbrev pub thread_part : Program → ℕ → Said
thread_part p t = said_by (first_false (thread_obligations p t)) (counts p t)

-- Details of rules ---------------------------------------------------------------------------------------------------

abbrev pub is_nothing : Detail → Bool
is_nothing Nothing = true
is_nothing (One a) = false
is_nothing (Two a b) = false
is_nothing (Three a b c) = false
is_nothing (Number n) = false

abbrev pub is_name : Detail → Bool
is_name Nothing = false
is_name (One a) = true
is_name (Two a b) = false
is_name (Three a b c) = false
is_name (Number n) = false

abbrev pub is_number : Detail → Bool
is_number Nothing = false
is_number (One a) = false
is_number (Two a b) = false
is_number (Three a b c) = false
is_number (Number n) = true

-- whether a rule is one of threads (V1 to V16), and a detail of the kind that reports of it show: nothing, one name, or the number of
-- an entailment
abbrev pub goes_with : Rule → Detail → Bool
goes_with W1 d = false
goes_with W2 d = false
goes_with W3 d = false
goes_with W4 d = false
goes_with W5 d = false
goes_with W6 d = false
goes_with W7 d = false
goes_with W8 d = false
goes_with W9 d = false
goes_with V1 d = is_name d
goes_with V2 d = is_name d
goes_with V3 d = is_nothing d
goes_with V4 d = is_nothing d
goes_with V5 d = is_name d
goes_with V6 d = is_name d
goes_with V7 d = is_name d
goes_with V8 d = is_nothing d
goes_with V9 d = is_number d
goes_with V10 d = is_nothing d
goes_with V11 d = is_name d
goes_with V12 d = is_nothing d
goes_with V13 d = is_number d
goes_with V14 d = is_name d
goes_with V15 d = is_nothing d
goes_with V16 d = is_nothing d

-- Each number of a count that is said is below this, so that no sum over threads wraps.
abbrev pub most_said : ℕ
most_said = 2 ^ 48

-- What may be said of a thread with this number: small counts, or a refusal of this thread with what goes with its rule.
abbrev pub IsLawful : ℕ → Said → Type 0
IsLawful t (Ok count) = (count.statements < most_said) × (count.entailments < most_said)
IsLawful t (Err refusal) = (refusal.thread ≡ Some t) × IsTrue (goes_with refusal.rule refusal.detail)

-- Judges -----------------------------------------------------------------------------------------------------------

-- What a judge means: what it says of a thread, as a function of the declared variables and locks and of the number and the
-- declaration of the thread; whether that is exact, what the rules say; and how many statements it has judged.
pub record Judging : Type 0 where
  pub says : List Var → List Lock → ℕ → Thread → Said
  pub exact : Bool
  pub judged : ℕ

-- what it says of a thread of a program
abbrev pub says_of : Judging → Program → ℕ → Said
says_of j p t = j.says p.vars p.locks t (numbered p t)

-- What holds of what a judge says of the threads of well formed programs whose declarations keep the rules.
pub record IsSound (j : Judging) : Type 0 where
  pub lawful : (p : Program) → IsWellFormed p → IsTrue (all_hold (declaration_obligations p)) → (t : ℕ) → t < length p.threads
      → IsLawful t (says_of j p t)
  pub exactly : IsTrue j.exact → (p : Program) → IsWellFormed p → IsTrue (all_hold (declaration_obligations p)) → (t : ℕ) → t < length p.threads
      → says_of j p t ≡ thread_part p t

-- No call changes what a judge says, nor whether that is exact.
pub record Passes (before after : Judging) : Type 0 where
  pub says : after.says ≡ before.says
  pub exact : after.exact ≡ before.exact
