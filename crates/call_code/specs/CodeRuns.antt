-- `run-code` and `pair-code`: what is replied to a program, a start or two and a schedule, by the code of the program.
use Rattle.std.specs.Prelude.{◌≡◌, ℕ, List, length}
use Rattle.call_code.specs.Codes.{accepted_pair, code_end, code_of, code_start}
use Rattle.replay_inputs.specs.Inputs.{PairInput, RunInput}
use Rattle.call_inputs.specs.Plans.{Plan, does}
use Rattle.call_inputs.specs.Readings.{Reading, gives, then_read, tries}
use Rattle.replay_inputs.specs.Steps as step
use Rattle.call_judge.specs.Check.{rejection}
use Rattle.replay_reports.specs.CodeReports.{code_pair_report, code_report}
use Rattle.call_reports.specs.Replies.{Reply, ran}
use Rattle.cov_ast.specs.Plain.{plain}
use Rattle.cov_ast.specs.Syntax.{Program}
use Rattle.policy_class.specs.Resolved.{resolved}
use Rattle.risc_machine.specs.Machine.{code_stayed_from}
use Rattle.risc_machine.specs.declared.parts.Parts.{Parts}
use Rattle.schedule_replay.specs.CodeReplays.{CodeAgreesThroughout}

-- One run -----------------------------------------------------------------------------------------------------

-- the report on a run of code from a memory under a schedule
abbrev pub report_on_code : Program → Parts → (memory schedule : List ℕ) → List ℕ
report_on_code p c memory schedule =
    code_report p c (length schedule) (code_stayed_from c (code_start c memory) schedule) (code_end c memory schedule)

-- the reply to a run of the code of a program that is accepted
abbrev pub RunsCode : RunInput → Reply → Type 0
RunsCode i reply = reply ≡ ran (report_on_code (resolved i.program) (code_of i.program) i.memory i.schedule)

-- Two runs ----------------------------------------------------------------------------------------------------

-- The runs of code from two memories agree after each step of a schedule.
pub record CodeRunsTogether (p : Program) (c : Parts) (left right schedule : List ℕ) (reply : Reply) : Type 0 where
  pub agree : CodeAgreesThroughout (plain p) c (code_start c left) (code_start c right) schedule
  pub is : reply ≡ ran (code_pair_report p c (length schedule) (code_end c left schedule) (code_end c right schedule))

-- the reply to two runs of the code of a program that is accepted, from fit starts: they never differ
abbrev pub PairsCode : PairInput → Reply → Type 0
PairsCode i reply = CodeRunsTogether (resolved i.program) (code_of i.program) i.left i.right i.schedule reply

-- Plans -------------------------------------------------------------------------------------------------------

-- what a run takes, if its program is accepted
abbrev pub accepted_run : RunInput → Reading RunInput
accepted_run i = tries (rejection i.program) (gives i)

-- what `run-code` does
abbrev pub run_code_plan : (name start schedule : List ℕ) → Plan
run_code_plan name start schedule = does (then_read (step.run_input name start schedule) accepted_run) RunsCode

-- what `pair-code` does
abbrev pub pair_code_plan : (name first second schedule : List ℕ) → Plan
pair_code_plan name first second schedule = does (then_read (step.pair_input name first second schedule) accepted_pair) PairsCode
