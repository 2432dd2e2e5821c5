-- `pair`: what is replied to a program, two starts and a schedule.
use Rattle.std.specs.Prelude.{◌≡◌, ◌⊎◌, ℕ, List, length}
use Rattle.replay_inputs.specs.Inputs.{PairInput}
use Rattle.call_inputs.specs.Plans.{Plan, does}
use Rattle.call_inputs.specs.Readings.{Reading, gives, then_read, tries}
use Rattle.replay_inputs.specs.Steps as step
use Rattle.call_judge.specs.Starts.{unfit_starts}
use Rattle.call_reports.specs.Differences.{differ_text}
use Rattle.call_reports.specs.Replies.{Reply, differ, ran}
use Rattle.replay_reports.specs.RunReports.{pair_report}
use Rattle.cov_ast.specs.Plain.{plain}
use Rattle.cov_ast.specs.Syntax.{Program}
use Rattle.flow_model.specs.Source.{after, begin}
use Rattle.policy_class.specs.Resolved.{resolved}
use Rattle.schedule_replay.specs.Replays.{AgreeThroughout, IsFirstStepApart}
use Rattle.schedule_replay.specs.declared.replays.Found.{Found}
use Rattle.call_run.specs.Runs.{declared_rejection}

-- The runs from two memories agree after each step of a schedule.
pub record RunTogether (p : Program) (left right schedule : List ℕ) (reply : Reply) : Type 0 where
  pub agree : AgreeThroughout (plain p) (begin (plain p) left) (begin (plain p) right) schedule
  pub is : reply ≡ ran (pair_report p (length schedule) (after (plain p) left schedule) (after (plain p) right schedule))

-- They don't, and the first step after which they don't is told, with what they differ in there.
pub record RunApart (p : Program) (left right schedule : List ℕ) (reply : Reply) : Type 0 where
  pub found : Found
  pub first : IsFirstStepApart (plain p) (begin (plain p) left) (begin (plain p) right) schedule found
  pub is : reply ≡ differ found.step (differ_text p found.differ)

-- the reply to two runs of a program from fit starts, side by side
abbrev pub RunsFit : Program → (left right schedule : List ℕ) → Reply → Type 0
RunsFit p left right schedule reply = RunTogether p left right schedule reply ⊎ RunApart p left right schedule reply

-- the reply to two runs
abbrev pub Pairs : PairInput → Reply → Type 0
Pairs i reply = RunsFit (resolved i.program) i.left i.right i.schedule reply

-- what `pair` reads: a program whose declarations are in order, two starts of it that are fit, and a schedule
abbrev pub pair_reading : (name first second schedule : List ℕ) → Reading PairInput
pair_reading name first second schedule =
    then_read (step.pair_input name first second schedule) (λ i.
    tries (declared_rejection i.program) (tries (unfit_starts i.program i.left i.right) (gives i)))

-- what `pair` does
abbrev pub pair_plan : (name first second schedule : List ℕ) → Plan
pair_plan name first second schedule = does (pair_reading name first second schedule) Pairs
