-- `refute`: what is replied to a program, of which numbered trials are run.
use Rattle.std.specs.Prelude.{◌≡◌, ℕ, List, take, Option, Some, None}
use Rattle.call_inputs.specs.Plans.{Plan, does}
use Rattle.call_inputs.specs.Readings.{Reading, gives, then_read, tries}
use Rattle.call_inputs.specs.Steps as step
use Rattle.call_reports.specs.Replies.{Reply, ran, refuted}
use Rattle.replay_reports.specs.TrialReports.{apart_report, none_report}
use Rattle.cov_ast.specs.Plain.{plain}
use Rattle.cov_ast.specs.Syntax.{Parsed, Program}
use Rattle.policy_class.specs.Resolved.{resolved}
use Rattle.refute.specs.Trials.{IsFirstTrial, first_memory, fit_among, schedule, second_memory}
use Rattle.schedule_replay.specs.declared.replays.Found.{Found}
use Rattle.call_run.specs.Runs.{declared_rejection}

-- the report on the trial of a program with this number, whose two runs don't agree: of its schedule the entries up to the step that is found
abbrev pub report_on_trial : Program → (number : ℕ) → Found → List ℕ
report_on_trial p number found =
    apart_report p number found (first_memory (plain p) number) (second_memory (plain p) number) (take found.step (schedule (plain p) number))

-- what is replied to so many trials of a program, of which this is the first whose two runs don't agree, or of which there is none
abbrev pub reply_to_trials : Program → (trials : ℕ) → Option (ℕ × Found) → Reply
reply_to_trials p trials None = ran (none_report trials (fit_among (plain p) trials))
reply_to_trials p trials (Some r) = refuted (report_on_trial p r.0 r.1)

-- The first of so many trials whose two runs don't agree is told, or that there is none.
pub record RefutesWith (p : Program) (trials : ℕ) (reply : Reply) : Type 0 where
  pub found : Option (ℕ × Found)
  pub first : IsFirstTrial (plain p) trials found
  pub is : reply ≡ reply_to_trials p trials found

-- the reply to so many trials of what a text spells
abbrev pub Refutes : (trials : ℕ) → Parsed → Reply → Type 0
Refutes trials p reply = RefutesWith (resolved p) trials reply

-- what `refute` reads: a program whose declarations are in order
abbrev pub refute_reading : (name : List ℕ) → Reading Parsed
refute_reading name = then_read (step.program name) (λ p. tries (declared_rejection p) (gives p))

-- what `refute` does
abbrev pub refute_plan : (name : List ℕ) (trials : ℕ) → Plan
refute_plan name trials = does (refute_reading name) (Refutes trials)
