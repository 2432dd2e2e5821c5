-- `run` and `run-until`: what is replied to a program, a start and a schedule, and to an expression at which a run is to stop.
use Rattle.std.specs.Prelude.{◌≡◌, ℕ, List, [], ◌++◌, length, take, Option, Some, None, if◌then◌else◌}
use Rattle.replay_inputs.specs.Inputs.{RunInput}
use Rattle.call_inputs.specs.Plans.{Plan, does}
use Rattle.call_inputs.specs.Readings.{Reading, gives, then_read, tries}
use Rattle.call_inputs.specs.Rejections.{Rejection, by_rule}
use Rattle.replay_inputs.specs.Steps as step
use Rattle.call_reports.specs.Replies.{Reply, ran}
use Rattle.replay_reports.specs.RunReports.{run_report, stop_line}
use Rattle.cov_ast.specs.Obligations.{Obligation, all_hold, first_false}
use Rattle.cov_ast.specs.Plain.{plain}
use Rattle.cov_ast.specs.Syntax.{Parsed, Program}
use Rattle.cov_ast.specs.declared.refusal.Refusal.{Refusal}
use Rattle.cov_expr.specs.Term.{Term}
use Rattle.flow_model.specs.Source.{after, begin, stayed}
use Rattle.mode_compat.specs.Declared.{declaration_obligations}
use Rattle.policy_class.specs.Resolved.{name_obligations, resolved}
use Rattle.schedule_replay.specs.Replays.{StopsAt}
use Rattle.schedule_replay.specs.declared.replays.Until.{Until}

-- Declarations -------------------------------------------------------------------------------------------------

-- the obligations of the declarations of what a text spells: those of its names (W1, W2), and, where these hold, W3 to W9
abbrev pub declared_obligations : Parsed → List Obligation
declared_obligations p = name_obligations p ++ (if all_hold (name_obligations p) then declaration_obligations (resolved p) else [])

-- the rejection for an obligation of declarations that doesn't hold; it is in no thread
abbrev pub declared_rejection_by : Option Refusal → Option Rejection
declared_rejection_by None = None
declared_rejection_by (Some refusal) = Some (by_rule refusal None)

-- why what a text spells isn't run: its first obligation of declarations that doesn't hold
abbrev pub declared_rejection : Parsed → Option Rejection
declared_rejection p = declared_rejection_by (first_false (declared_obligations p))

-- A whole schedule ---------------------------------------------------------------------------------------------

-- the report on a run of a program from a memory under a schedule
abbrev pub report_on_run : Program → (memory schedule : List ℕ) → List ℕ
report_on_run p memory schedule = run_report p (length schedule) (stayed (plain p) memory schedule) (after (plain p) memory schedule)

-- the reply to a run
abbrev pub Runs : RunInput → Reply → Type 0
Runs i reply = reply ≡ ran (report_on_run (resolved i.program) i.memory i.schedule)

-- what `run` reads: a program whose declarations are in order, a start and a schedule
abbrev pub run_reading : (name start schedule : List ℕ) → Reading RunInput
run_reading name start schedule = then_read (step.run_input name start schedule) (λ i. tries (declared_rejection i.program) (gives i))

-- what `run` does
abbrev pub run_plan : (name start schedule : List ℕ) → Plan
run_plan name start schedule = does (run_reading name start schedule) Runs

-- Until an expression holds ------------------------------------------------------------------------------------

-- the report on a run from a memory under the first entries of a schedule
abbrev pub report_until : Program → (memory schedule : List ℕ) → Until → List ℕ
report_until p memory schedule stop =
    stop_line stop.hit stop.steps ++ run_report p stop.steps stop.stayed (after (plain p) memory (take stop.steps schedule))

-- The run stops after the least number of steps, 0 included, after which an expression holds, and where there is none after all.
pub record RunsTo (p : Program) (memory schedule : List ℕ) (e : Term) (reply : Reply) : Type 0 where
  pub stop : Until
  pub stops : StopsAt e (begin (plain p) memory) schedule stop
  pub is : reply ≡ ran (report_until p memory schedule stop)

-- what a run until an expression holds takes
pub record UntilInput : Type 0 where
  pub run : RunInput
  pub expression : Term

-- the reply to a run until an expression holds
abbrev pub RunsUntil : UntilInput → Reply → Type 0
RunsUntil i reply = RunsTo (resolved i.run.program) i.run.memory i.run.schedule i.expression reply

-- the expression of a run, behind all files, and what rejects the program, behind the expression
abbrev pub until_reading : (word : List ℕ) → RunInput → Reading UntilInput
until_reading word i =
    then_read (step.expression i.program word) (λ e. tries (declared_rejection i.program) (gives (record { run = i; expression = e })))

-- what `run-until` does
abbrev pub run_until_plan : (name start schedule word : List ℕ) → Plan
run_until_plan name start schedule word = does (then_read (step.run_input name start schedule) (until_reading word)) RunsUntil
