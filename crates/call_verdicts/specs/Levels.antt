-- `levels`: what is replied to a program and to a text of levels, by what the observer at each of them is shown of the program.
use Rattle.std.specs.Prelude.{◌≡◌, ℕ, List, [], ◌++◌, length, get_or, codes, Option, Some, None, option_map}
use Rattle.cov_ast.specs.Syntax.{Parsed}
use Rattle.cov_ast.specs.declared.refusal.Refusal.{Refusal}
use Rattle.cov_expr.specs.declared.limits.TheConstants.{MOST_BYTES}
use Rattle.level_text.specs.Lattice.{Levels}
use Rattle.level_text.specs.LevelReads.{GivesLevels, IsFirstFault}
use Rattle.level_text.specs.declared.fault.LevelFault.{LevelFault}
use Rattle.level_text.specs.declared.fault.LevelFault.TheVariants as kinds
use Rattle.levels.specs.Accepted.{first_refused}
use Rattle.levels.specs.Projection.{projected}
use Rattle.policy_class.specs.Resolved.{resolved}
use Rattle.call_inputs.specs.Plans.{Plan, does}
use Rattle.call_inputs.specs.Programs.{shown}
use Rattle.call_inputs.specs.Readings.{Reading, file, gives, then_read, tries}
use Rattle.call_inputs.specs.Rejections.{Rejection, by_rule_for}
use Rattle.call_inputs.specs.Steps as step
use Rattle.call_judge.specs.Check.{name_rejection, thread_name, totals}
use Rattle.call_reports.specs.Replies.{Reply, ran}
use Rattle.call_reports.specs.Reports.{counted}
use Rattle.call_reports.specs.declared.answers.Fault.{Fault}
use Rattle.call_reports.specs.declared.answers.Fault.TheVariants as f
use Rattle.call_reports.specs.declared.answers.FaultKind.TheVariants as k
use Rattle.call_reports.specs.declared.answers.Misfit.TheVariants as m
use Rattle.call_reports.specs.declared.answers.Totals.{Totals}

-- Faults ---------------------------------------------------------------------------------------------------------------------

-- a fault of a text of levels as reports show it; want of memory is none
abbrev pub level_fault_shown : LevelFault → Option Fault
level_fault_shown (kinds.Text fault) = shown fault
level_fault_shown (kinds.Many at) = Some (f.Text k.Limit at)
level_fault_shown (kinds.Same at) = Some (f.Misfit m.Same at)
level_fault_shown (kinds.Unknown at) = Some (f.Misfit m.Unknown at)
level_fault_shown (kinds.Plain at) = Some (f.Misfit m.Marker at)
level_fault_shown kinds.NoMemory = None

-- The first fault of a text of levels for a program is shown so.
abbrev pub IsShownLevelFault : Parsed → List ℕ → Fault → Type 0
IsShownLevelFault p bytes fault = (found : LevelFault) × IsFirstFault bytes p found × (level_fault_shown found ≡ Some fault)

-- a file that gives levels for a program
abbrev pub levels_of : Parsed → (name : List ℕ) → Reading Levels
levels_of p name = file name MOST_BYTES (λ bytes l. GivesLevels bytes p l) (IsShownLevelFault p) (λ l. gives l)

-- The command ----------------------------------------------------------------------------------------------------------------

-- what `levels` takes: a program, and levels
pub record LevelsInput : Type 0 where
  pub program : Parsed
  pub levels : Levels

-- why what is shown isn't accepted for every level: the name of the first, and what is refused there, in a thread with a name or in none
abbrev pub rejection_for : LevelsInput → ℕ × Refusal → Rejection
rejection_for i (observer, refusal) = by_rule_for (get_or i.levels.names observer []) refusal (thread_name i.program refusal.thread)

abbrev pub level_rejection : LevelsInput → Option Rejection
level_rejection i = option_map (rejection_for i) (first_refused i.levels (resolved i.program))

-- how much is checked for each level: of each it is as much
abbrev pub totals_for : LevelsInput → Totals
totals_for i = totals (projected i.levels 0 (resolved i.program))

-- the line of a program that is accepted for every level
abbrev pub levels_words : (observers : ℕ) → Totals → List ℕ
levels_words observers t =
    codes "levels: " ++ counted observers (codes " observers, ") ++ counted t.threads (codes " threads, ")
    ++ counted t.statements (codes " statements, ") ++ counted t.entailments (codes " entailments\n")

-- the reply to a program that is accepted for every level
abbrev pub AcceptsForAll : LevelsInput → Reply → Type 0
AcceptsForAll i reply = reply ≡ ran (levels_words (length i.levels.names) (totals_for i))

-- what is asked: that the names of the program are in order (W1, W2), and that what is shown is accepted for every level
abbrev pub accepted_for_all : LevelsInput → Reading LevelsInput
accepted_for_all i = tries (name_rejection i.program) (tries (level_rejection i) (gives i))

-- what `levels` reads
abbrev pub levels_reading : (name over : List ℕ) → Reading LevelsInput
levels_reading name over =
    then_read (step.program name) (λ p. then_read (levels_of p over) (λ l. accepted_for_all (record { program = p; levels = l })))

-- what `levels` does
abbrev pub levels_plan : (name over : List ℕ) → Plan
levels_plan name over = does (levels_reading name over) AcceptsForAll
