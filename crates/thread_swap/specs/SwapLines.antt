-- The verdict on a program, and after each replaced thread, each with how many statements were judged for it.
use Rattle.std.specs.Prelude.{ℕ, ◌-◌, min, List, [], ◌∷◌, set, sum_by, Option, None}
use Rattle.cov_ast.specs.Plain.{plain}
use Rattle.cov_ast.specs.Syntax.{Thread, Program}
use Rattle.flow_model.specs.Secure.{IsSecure}
use Rattle.thread_swap.specs.Judges.{Judging, Said, last_count, risen}
use Rattle.thread_swap.specs.Replacements.{thread_named}
use Rattle.thread_swap.specs.Swaps.{all_open, due, settled, swapped, verdict_on}
use Rattle.thread_swap.specs.declared.judged.Judged.{Judged}
use Rattle.thread_swap.specs.declared.judged.Judged.TheVariants.{Accepted, Refused}
use Rattle.thread_swap.specs.declared.line.Line.{Line}

-- how far a count rises by a number: by that, or up to its last value
abbrev pub rise : (count by : ℕ) → ℕ
rise count by = min by (last_count - count)

-- a program with a declaration in the place of its thread of that name
abbrev pub put_in : Program → Thread → Program
put_in p d = swapped p (thread_named p d.name) d

-- what is kept of the threads of a program, of which that one is open
abbrev pub opened : Program → List (Option Said) → Thread → List (Option Said)
opened p answers d = set answers (thread_named p d.name) None

-- the line on a program of which these answers are kept, where a judge has this count: the verdict on the program from scratch, and how
-- far the count rises by the statements of the threads that are open
abbrev pub line_on : Judging → Program → List (Option Said) → (count : ℕ) → Line
line_on j p answers count = record { verdict = verdict_on j p; checked = rise count (due p answers) }

-- the lines on a program of which these answers are kept, after each replaced thread
abbrev pub lines_behind : Judging → Program → List (Option Said) → (count : ℕ) → List Thread → List Line
lines_behind j p answers count [] = []
lines_behind j p answers count (d ∷ ds) =
    line_on j (put_in p d) (opened p answers d) count
    ∷ lines_behind j (put_in p d) (settled j (put_in p d) (opened p answers d)) (risen count (due (put_in p d) (opened p answers d))) ds

-- the lines on a program by a judge that wasn't asked of it before: at the start, and after each replaced thread
abbrev pub swap_lines : Judging → Program → List Thread → List Line
swap_lines j p ds =
    line_on j p (all_open p) j.judged ∷ lines_behind j p (settled j p (all_open p)) (risen j.judged (due p (all_open p))) ds

-- the programs that these lines are on
abbrev pub programs_behind : Program → List Thread → List Program
programs_behind p [] = []
programs_behind p (d ∷ ds) = put_in p d ∷ programs_behind (put_in p d) ds

abbrev pub swapped_programs : Program → List Thread → List Program
swapped_programs p ds = p ∷ programs_behind p ds

-- A program on which there is this verdict is secure, if it is accepted.
abbrev pub IsSecureIfAccepted : Judged → Program → Type 0
IsSecureIfAccepted (Accepted count) p = IsSecure (plain p)
IsSecureIfAccepted (Refused refusal) p = Unit {0}

-- So it is of each of these lines and the program that it is on.
abbrev pub AreSecureIfAccepted : List Line → List Program → Type 0
AreSecureIfAccepted [] [] = Unit {0}
AreSecureIfAccepted [] (p ∷ ps) = ⊥
AreSecureIfAccepted (l ∷ ls) [] = ⊥
AreSecureIfAccepted (l ∷ ls) (p ∷ ps) = IsSecureIfAccepted l.verdict p × AreSecureIfAccepted ls ps

-- how many statements were judged for all of them
abbrev pub all_checked : List Line → ℕ
all_checked lines = sum_by (λ l. l.checked) lines
