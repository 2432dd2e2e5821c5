-- `check`: what is asked of what a text spells, and what is replied.
use Rattle.std.specs.Prelude.{◌≡◌, ℕ, List, [], ◌++◌, length, map, slice_get, if◌then◌else◌, Option, Some, None, IsTrue}
use Rattle.call_inputs.specs.Plans.{Plan, does}
use Rattle.call_inputs.specs.Readings.{Reading, gives, then_read, tries}
use Rattle.call_inputs.specs.Rejections.{Rejection, UnlessRejected, by_rule}
use Rattle.call_inputs.specs.Steps as step
use Rattle.call_reports.specs.Replies.{Reply, accepted}
use Rattle.call_reports.specs.declared.answers.Totals.{Totals}
use Rattle.cov_ast.specs.Obligations.{Obligation, all_hold, first_false}
use Rattle.cov_ast.specs.Syntax.{Parsed, Program, Thread}
use Rattle.cov_ast.specs.declared.refusal.Refusal.{Refusal}
use Rattle.policy_class.specs.Resolved.{name_obligations, resolved}
use Rattle.typing_law.specs.Accepted.{program_obligations}
use Rattle.typing_law.specs.Verdicts.{counts}

-- the obligations of what a text spells: those of its names (W1, W2), and, where these hold, those of the program that it
-- stands for (W3 to W9, V1 to V16)
abbrev pub obligations : Parsed → List Obligation
obligations p = name_obligations p ++ (if all_hold (name_obligations p) then program_obligations (resolved p) else [])

-- the name of a thread of a program by its number
abbrev pub name_in : List Thread → Option ℕ → Option (List ℕ)
name_in threads None = None
name_in threads (Some t) = slice_get (map (λ thread. thread.name) threads) t

-- the name of a thread of a text
abbrev pub thread_name : Parsed → Option ℕ → Option (List ℕ)
thread_name p thread = name_in p.threads thread

-- What a text spells is accepted: every obligation holds.
abbrev pub IsAcceptedText : Parsed → Type 0
IsAcceptedText p = IsTrue (all_hold (obligations p))

-- the rejection for an obligation that doesn't hold, with the name of the thread in which it is, if it is in one
abbrev pub rejection_by : Parsed → Option Refusal → Option Rejection
rejection_by p None = None
rejection_by p (Some refusal) = Some (by_rule refusal (thread_name p refusal.thread))

-- why what a text spells isn't accepted: its first obligation that doesn't hold
abbrev pub rejection : Parsed → Option Rejection
rejection p = rejection_by p (first_false (obligations p))

-- how much a program has: the numbers of its threads, its statements and its entailments
abbrev pub totals : Program → Totals
totals p = record { threads = length p.threads; statements = (counts p).statements; entailments = (counts p).entailments }

-- the rejection for an obligation of names that doesn't hold; it is in no thread
abbrev pub name_rejection_by : Option Refusal → Option Rejection
name_rejection_by None = None
name_rejection_by (Some refusal) = Some (by_rule refusal None)

-- why the names of what a text spells aren't in order: the first obligation of theirs that doesn't hold (W1, W2)
abbrev pub name_rejection : Parsed → Option Rejection
name_rejection p = name_rejection_by (first_false (name_obligations p))

-- the reply to a check of a program that is accepted and has so much
abbrev pub accepted_with : Totals → Reply
accepted_with t = accepted t.threads t.statements t.entailments

-- the reply to a check of a text that is accepted
abbrev pub verdict : Parsed → Reply
verdict p = accepted_with (totals (resolved p))

-- the reply to a check of what a text spells
abbrev pub Judges : Parsed → Reply → Type 0
Judges p reply = UnlessRejected (rejection p) (λ r. r ≡ verdict p) reply

-- a file that spells a program that is accepted
abbrev pub accepted_program : (name : List ℕ) → Reading Parsed
accepted_program name = then_read (step.program name) (λ p. tries (rejection p) (gives p))

-- what `check` does
abbrev pub check_plan : (name : List ℕ) → Plan
check_plan name = does (accepted_program name) (λ p reply. reply ≡ verdict p)
