-- `swap`: what is replied to a program and to a text of threads, each of which replaces the thread of its name, by what a judge says.
use Rattle.std.specs.Prelude.{◌≡◌, ℕ, List, ◌++◌, length, flat_map, slice_get, codes, decimal, Option, Some, None, option_map}
use Rattle.cov_ast.specs.Syntax.{Parsed, Program, Thread}
use Rattle.policy_class.specs.Resolved.{resolved}
use Rattle.thread_swap.specs.Binding.{bound, first_fault}
use Rattle.thread_swap.specs.Judges.{Judging}
use Rattle.thread_swap.specs.Replacements.{thread_names}
use Rattle.thread_swap.specs.SwapLines.{all_checked, swap_lines}
use Rattle.thread_swap.specs.declared.judged.Judged.{Judged}
use Rattle.thread_swap.specs.declared.judged.Judged.TheVariants.{Accepted, Refused}
use Rattle.thread_swap.specs.declared.line.Line.{Line}
use Rattle.thread_swap.specs.declared.swap_fault.SwapFault.{SwapFault}
use Rattle.thread_swap.specs.declared.swap_fault.SwapFault.TheVariants.{Version, Declares, NoThread, Unknown, NoMemory}
use Rattle.call_inputs.specs.Plans.{Plan, asks}
use Rattle.call_inputs.specs.Readings.{Reading, gives, then_read, tries}
use Rattle.call_inputs.specs.Rejections.{Rejection, misfit}
use Rattle.call_inputs.specs.Steps as step
use Rattle.call_judge.specs.Check.{name_rejection}
use Rattle.call_reports.specs.Replies.{Reply, ran}
use Rattle.call_reports.specs.Reports.{accepted_words, refusal_words}
use Rattle.call_reports.specs.declared.answers.Fault.{Fault}
use Rattle.call_reports.specs.declared.answers.Fault.TheVariants as f
use Rattle.call_reports.specs.declared.answers.Misfit.TheVariants as m

-- Faults ---------------------------------------------------------------------------------------------------------------------

-- a fault of a text of threads as reports show it, of its version at its head; want of memory is none
abbrev pub misfit_shown : SwapFault → Option Fault
misfit_shown Version = Some (f.Misfit m.Version 0)
misfit_shown (Declares at) = Some (f.Misfit m.Declares at)
misfit_shown (NoThread at) = Some (f.Misfit m.Thread at)
misfit_shown (Unknown at) = Some (f.Misfit m.Unknown at)
misfit_shown NoMemory = None

abbrev pub misfit_by : (name : List ℕ) → Option SwapFault → Option Rejection
misfit_by name None = None
misfit_by name (Some fault) = option_map (misfit name) (misfit_shown fault)

-- why the threads of the text in a file can't stand in the place of those of a program: its first fault
abbrev pub misfit_rejection : (name : List ℕ) → Program → Parsed → Option Rejection
misfit_rejection name p e = misfit_by name (first_fault p e)

-- Reports --------------------------------------------------------------------------------------------------------------------

-- the name of a thread by its number
abbrev pub name_at : (names : List (List ℕ)) → Option ℕ → Option (List ℕ)
name_at names None = None
name_at names (Some t) = slice_get names t

-- a verdict on a program whose threads have these names, in the words of `check`
abbrev pub verdict_words : (names : List (List ℕ)) → Judged → List ℕ
verdict_words names (Accepted count) = accepted_words (length names) count.statements count.entailments
verdict_words names (Refused refusal) = refusal_words refusal (name_at names refusal.thread)

-- the line on it, with how many statements were judged
abbrev pub line_text : (names : List (List ℕ)) → Line → List ℕ
line_text names line = verdict_words names line.verdict ++ codes " checked " ++ decimal line.checked ++ codes "\n"

-- the report on a program, and on it after each replaced thread
abbrev pub swap_report : Program → List Line → List ℕ
swap_report p lines = flat_map (line_text (thread_names p)) lines

-- The command ----------------------------------------------------------------------------------------------------------------

-- what `swap` takes: a program, and a text of threads
pub record SwapInput : Type 0 where
  pub program : Parsed
  pub replacing : Parsed

-- the threads of the text, by the variables and locks of the program
abbrev pub replacements : SwapInput → List Thread
replacements i = bound (resolved i.program) i.replacing

-- the lines on the program, by what a judge says
abbrev pub lines_by : Judging → SwapInput → List Line
lines_by j i = swap_lines j (resolved i.program) (replacements i)

-- how many statements the judge is asked to judge for them
abbrev pub due_by : Judging → SwapInput → ℕ
due_by j i = all_checked (lines_by j i)

-- the reply to a program and a text of threads
abbrev pub Swaps : Judging → SwapInput → Reply → Type 0
Swaps j i reply = reply ≡ ran (swap_report (resolved i.program) (lines_by j i))

-- what of a program and a text of threads is asked: the names of the program (W1, W2), and that the threads may stand in their places
abbrev pub fitting : (replacing : List ℕ) → SwapInput → Reading SwapInput
fitting replacing i = tries (name_rejection i.program) (tries (misfit_rejection replacing (resolved i.program) i.replacing) (gives i))

-- what `swap` reads
abbrev pub swap_reading : (name replacing : List ℕ) → Reading SwapInput
swap_reading name replacing =
    then_read (step.program name) (λ p. then_read (step.program replacing) (λ e. fitting replacing (record { program = p; replacing = e })))

-- what `swap` does
abbrev pub swap_plan : Judging → (name replacing : List ℕ) → Plan
swap_plan j name replacing = asks (swap_reading name replacing) (Swaps j) (due_by j)
