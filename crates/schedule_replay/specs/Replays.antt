-- What replays of programs leave and answer: what is said of every machine, at the source machine, and when a run until an expression stops.
use Rattle.std.specs.Prelude.{◌≡◌, ◌↔◌, ℕ, ◌<◌, ◌≤◌, List, length, take, IsTrue}
use Rattle.cov_expr.specs.Entailment.{Holds}
use Rattle.cov_expr.specs.Term.{Term}
use Rattle.cov_ast.specs.Plain.{Plain}
use Rattle.flow_model.specs.Agreement.{IsAlikeAt, StatesAgree, shared_of}
use Rattle.flow_model.specs.FirstDifference as first
use Rattle.flow_model.specs.Runs as runs
use Rattle.flow_model.specs.Source.{Run, step, stayed_from}
use Rattle.flow_model.specs.declared.agreement.Differ.{Differ}
use Rattle.schedule_replay.specs.declared.replays.Found.{Found}
use Rattle.schedule_replay.specs.declared.replays.Until.{Until}

-- the state after the first steps of a schedule
abbrev pub after_steps : Run → List ℕ → ℕ → Run
after_steps r schedule k = runs.after_steps step r schedule k

-- Until an expression holds ------------------------------------------------------------------------------------

-- The run stops after the least number of steps after which the expression holds, or where there is none after all of them.
pub record StopsAt (e : Term) (r : Run) (schedule : List ℕ) (u : Until) : Type 0 where
  pub within : u.steps ≤ length schedule
  pub stayed : u.stayed ≡ stayed_from r (take u.steps schedule)
  pub earlier : (k : ℕ) → k < u.steps → ¬ Holds e (after_steps r schedule k).memory
  pub hit : IsTrue u.hit ↔ Holds e (after_steps r schedule u.steps).memory
  pub missed : ¬ IsTrue u.hit → u.steps ≡ length schedule

-- Two runs side by side ----------------------------------------------------------------------------------------

-- They agree after each step of the schedule. The start isn't looked at.
abbrev pub AgreeThroughout : Plain → (r s : Run) → List ℕ → Type 0
AgreeThroughout p r s schedule = runs.AgreeThroughout step (StatesAgree p) r s schedule

-- On what two states differ: the first lock, else the first variable, else the outputs, else the first thread.
abbrev pub DiffersIn : Plain → (r s : Run) → Differ → Type 0
DiffersIn p r s d = first.DiffersIn shared_of IsAlikeAt p r s d

-- It is the first step after which they don't agree, and what they differ in there.
abbrev pub IsFirstStepApart : Plain → (r s : Run) → List ℕ → Found → Type 0
IsFirstStepApart p r s schedule f = runs.IsFirstStepApart step (StatesAgree p) (DiffersIn p) r s schedule f.step f.differ
