-- A program of which threads are replaced: the verdict from scratch, by what a judge says, and what a swapper keeps.
use Rattle.std.specs.Prelude.{◌≡◌, ℕ, ◌≤◌, ◌<◌, List, [], ◌∷◌, length, map, get_or, set, replicate, sum_by, is_none, Option, Some, None, IfSome, Result, Ok, Err, if◌then◌else◌}
use Rattle.cov_ast.specs.Syntax.{Thread, Program}
use Rattle.cov_ast.specs.Obligations.{first_false}
use Rattle.cov_ast.specs.View as view
use Rattle.cov_ast.specs.WellFormed.{IsWellFormed}
use Rattle.cov_ast.specs.declared.decl.Program as decl
use Rattle.cov_ast.specs.declared.refusal.Refusal.{Refusal}
use Rattle.mode_compat.specs.Compatible.{threads_of}
use Rattle.mode_compat.specs.Declared.{declaration_obligations}
use Rattle.typing_law.specs.Counts.{counts}
use Rattle.typing_law.specs.declared.count.Count.{Count}
use Rattle.typing_law.specs.Accepted.{IsAccepted, program_obligations}
use Rattle.typing_law.specs.Verdicts.{counts as program_counts}
use Rattle.thread_swap.specs.Judges.{Judging, Said, says_of, risen}
use Rattle.thread_swap.specs.declared.judged.Judged.{Judged}
use Rattle.thread_swap.specs.declared.judged.Judged.TheVariants.{Accepted, Refused}

-- a program with a declaration in the place of a thread; all else is as it was
abbrev pub swapped : Program → (t : ℕ) → Thread → Program
swapped p t d = record p { threads = set p.threads t d }

-- Verdicts -----------------------------------------------------------------------------------------------------------

-- the first refusal among what is said
abbrev pub first_refusal : List Said → Option Refusal
first_refusal [] = None
first_refusal (Ok count ∷ rest) = first_refusal rest
first_refusal (Err refusal ∷ rest) = Some refusal

-- where a thread is refused nothing is counted of it
abbrev pub statements_said : Said → ℕ
statements_said (Ok count) = count.statements
statements_said (Err refusal) = 0

abbrev pub entailments_said : Said → ℕ
entailments_said (Ok count) = count.entailments
entailments_said (Err refusal) = 0

-- the counts, summed
abbrev pub total_said : List Said → Count
total_said all = record { statements = sum_by statements_said all; entailments = sum_by entailments_said all }

-- refused where there is a refusal, else accepted with a count
abbrev pub judged_by : Option Refusal → Count → Judged
judged_by None count = Accepted count
judged_by (Some refusal) count = Refused refusal

-- the verdict by what is said of all threads, in their order: the first refusal, else the counts, summed
abbrev pub judged_together : List Said → Judged
judged_together all = judged_by (first_refusal all) (total_said all)

-- what a judge says of the threads of a program, in their order
abbrev pub all_said : Judging → Program → List Said
all_said j p = map (says_of j p) (threads_of p)

-- a verdict on the threads, unless the declarations are refused
abbrev pub unless_refused : Option Refusal → Judged → Judged
unless_refused None verdict = verdict
unless_refused (Some refusal) verdict = Refused refusal

-- The verdict on a program from scratch: the first obligation of its declarations (W3 to W9) that doesn't hold, else the first refusal
-- that the judge says, by order of threads, else the counts, summed.
abbrev pub verdict_on : Judging → Program → Judged
verdict_on j p = unless_refused (first_false (declaration_obligations p)) (judged_together (all_said j p))

-- Swappers -----------------------------------------------------------------------------------------------------------

-- what a swapper keeps: the program; of each thread what was said of it, or nothing where it is open; and the verdict
pub record Swapping : Type 0 where
  pub program : decl.Program
  pub answers : List (Option Said)
  pub verdict : Judged

-- what is kept of a thread
abbrev pub kept : List (Option Said) → ℕ → Option Said
kept answers t = get_or answers t None

-- Each answer that is kept is what a judge says of the thread.
abbrev pub AreSaid : Judging → Program → List (Option Said) → Type 0
AreSaid j p answers = (t : ℕ) → t < length p.threads → IfSome (kept answers t) (λ said. said ≡ says_of j p t)

-- A swapper fits a judge.
abbrev pub Fits : Swapping → Judging → Type 0
Fits s j = AreSaid j (view.program s.program) s.answers

-- the statements of a thread, where it is open
abbrev pub open_at : Program → List (Option Said) → ℕ → ℕ
open_at p answers t = if is_none (kept answers t) then (counts p t).statements else 0

-- so many, or none where the declarations are refused
abbrev pub unless_undeclared : Option Refusal → ℕ → ℕ
unless_undeclared None statements = statements
unless_undeclared (Some refusal) statements = 0

-- how many statements are to be judged: those of the open threads, where the declarations keep the rules
abbrev pub due : Program → List (Option Said) → ℕ
due p answers = unless_undeclared (first_false (declaration_obligations p)) (sum_by (open_at p answers) (threads_of p))

-- an answer for each thread, or those there were where the declarations are refused
abbrev pub settled_by : Option Refusal → List (Option Said) → List Said → List (Option Said)
settled_by None answers all = map Some all
settled_by (Some refusal) answers all = answers

-- what is kept once a program was judged: no thread is open, unless the declarations are refused, and then none is judged
abbrev pub settled : Judging → Program → List (Option Said) → List (Option Said)
settled j p answers = settled_by (first_false (declaration_obligations p)) answers (all_said j p)

-- A count rose by at most so many, or as far as it can.
abbrev pub RisesByAtMost : (before after : ℕ) → (most : ℕ) → Type 0
RisesByAtMost before after most = (n : ℕ) × (n ≤ most) × (after ≡ risen before n)

-- The count of a judge rose by so many statements; where memory ran out, by at most so many.
abbrev pub Asks : {X E : Type 0} → (before after : ℕ) → (statements : ℕ) → Result X E → Type 0
Asks before after statements (Ok x) = after ≡ risen before statements
Asks before after statements (Err e) = RisesByAtMost before after statements

-- The verdict is that of what is kept: the first obligation of the declarations that doesn't hold, else that of an answer for each
-- thread.
abbrev pub IsVerdictOf : (refused : Option Refusal) → (threads : ℕ) → List (Option Said) → Judged → Type 0
IsVerdictOf None threads answers verdict = (all : List Said) × (length all ≡ threads) × (answers ≡ map Some all) × (verdict ≡ judged_together all)
IsVerdictOf (Some refusal) threads answers verdict = verdict ≡ Refused refusal

-- no answer is kept of any thread
abbrev pub all_open : Program → List (Option Said)
all_open p = replicate (length p.threads) None

-- What holds of what a swapper keeps, whatever the judge.
pub record IsStanding (p : Program) (answers : List (Option Said)) (verdict : Judged) : Type 0 where
  pub formed : IsWellFormed p
  pub complete : length answers ≡ length p.threads
  pub verdict_is : IsVerdictOf (first_false (declaration_obligations p)) (length p.threads) answers verdict

-- By an exact judge -------------------------------------------------------------------------------------------------

-- A verdict is that of the rules.
abbrev pub IsRight : Program → Judged → Type 0
IsRight p (Accepted count) = IsAccepted p × (count ≡ program_counts p)
IsRight p (Refused refusal) = first_false (program_obligations p) ≡ Some refusal
