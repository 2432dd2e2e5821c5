-- Runs under a schedule: of one machine, and of two side by side.
--
-- What is said here goes for every machine. A machine is given by what a step of a thread makes of a state and by what the
-- step says; two runs of it are compared by a relation of agreement on its states.
use Rattle.std.specs.Prelude.{ℕ, ◌+◌, ◌<◌, ◌≤◌, List, [], ◌∷◌, length, take, Bool, true, false}
use Rattle.flow_model.specs.declared.agreement.Differ.{Differ}
use Rattle.flow_model.specs.declared.machine.Stepped.{Stepped}
use Rattle.flow_model.specs.declared.machine.Stepped.TheVariants as stepped

-- 1 for a step that stayed, else 0
abbrev pub count_of : Stepped → ℕ
count_of stepped.Moved = 0
count_of stepped.Stayed = 1
count_of stepped.Idle = 0

-- whether a step that says so went on
abbrev pub has_moved : Stepped → Bool
has_moved stepped.Moved = true
has_moved stepped.Stayed = false
has_moved stepped.Idle = false

module _ {State : Type 0} (step : State → ℕ → State) where
  -- the state after the steps of a schedule, in order
  abbrev pub run_from : State → List ℕ → State
  run_from s [] = s
  run_from s (t ∷ ts) = run_from (step s t) ts

  -- the state after the first steps of a schedule
  abbrev pub after_steps : State → List ℕ → ℕ → State
  after_steps s schedule k = run_from s (take k schedule)

  -- how many steps of a schedule stay
  abbrev pub stayed_from : (says : State → ℕ → Stepped) → State → List ℕ → ℕ
  stayed_from says s [] = 0
  stayed_from says s (t ∷ ts) = count_of (says s t) + stayed_from says (step s t) ts

-- Two runs side by side ----------------------------------------------------------------------------------------

module _ {State : Type 0} (step : State → ℕ → State) (Agree : State → State → Type 0) where
  -- They agree after each step before one of this number, counted from 1. The start isn't looked at.
  abbrev pub AgreeBefore : (r s : State) → List ℕ → ℕ → Type 0
  AgreeBefore r s schedule n = (k : ℕ) → k < n → 0 < k → Agree (after_steps step r schedule k) (after_steps step s schedule k)

  -- They agree after each step of the schedule.
  abbrev pub AgreeThroughout : (r s : State) → List ℕ → Type 0
  AgreeThroughout r s schedule = (k : ℕ) → k ≤ length schedule → 0 < k → Agree (after_steps step r schedule k) (after_steps step s schedule k)

  -- It is the first step after which they don't agree, and what they differ in there.
  pub record IsFirstStepApart (DiffersIn : State → State → Differ → Type 0) (r s : State) (schedule : List ℕ) (n : ℕ) (d : Differ) : Type 0 where
    pub some : 0 < n
    pub within : n ≤ length schedule
    pub before : AgreeBefore r s schedule n
    pub apart : ¬ Agree (after_steps step r schedule n) (after_steps step s schedule n)
    pub differ : DiffersIn (after_steps step r schedule n) (after_steps step s schedule n) d
