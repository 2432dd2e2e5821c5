-- Words of private contracts: what steps of the code give. To believe what `covern` promises, nothing here need be read.
use Rattle.std.specs.Prelude.{◌≡◌, ℕ, List, Some, None}
use Rattle.replay_inputs.specs.Inputs.{RunInput}
use Rattle.call_inputs.specs.Plans.{Plan, does}
use Rattle.call_reports.specs.Replies.{Reply, refused}
use Rattle.cov_ast.specs.Obligations.{first_false}
use Rattle.cov_ast.specs.Syntax.{Parsed, Program}
use Rattle.cov_ast.specs.WellFormed.{IsWellFormed}
use Rattle.cov_ast.specs.declared.refusal.Refusal.{Refusal}
use Rattle.cov_expr.specs.Term.{Term}
use Rattle.policy_class.specs.Resolved.{resolved}
use Rattle.schedule_replay.specs.Replays.{StopsAt, after_steps}
use Rattle.schedule_replay.specs.declared.replays.Until.{Until}
use Rattle.source_machine.specs.SourceMachine.{RunningProgram, run_of}
use Rattle.call_run.specs.Runs.{RunsUntil, declared_obligations, until_reading}

-- The program that a text stands for, of which each obligation of declarations holds.
pub record IsDeclared (p : Parsed) (program : Program) : Type 0 where
  pub is : program ≡ resolved p
  pub formed : IsWellFormed program
  pub held : first_false (declared_obligations p) ≡ None

-- the refusal of the first obligation of declarations that doesn't hold
abbrev pub IsRefusal : Parsed → Reply → Type 0
IsRefusal p reply = (refusal : Refusal) × (first_false (declared_obligations p) ≡ Some refusal) × (reply ≡ refused refusal None)

-- what `run-until` does once all files are read
abbrev pub until_plan : RunInput → (word : List ℕ) → Plan
until_plan i word = does (until_reading word i) RunsUntil

-- A machine was run until an expression held, or under the whole schedule.
pub record IsStopped (e : Term) (before now : RunningProgram) (schedule : List ℕ) (stop : Until) : Type 0 where
  pub program : now.program ≡ before.program
  pub run : run_of now ≡ after_steps (run_of before) schedule stop.steps
  pub stops : StopsAt e (run_of before) schedule stop
