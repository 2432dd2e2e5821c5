-- What a machine gives to be replayed: the semantics by which it runs, and what contracts see of it.
--
-- The source machine and the RISC machine stand at the end, a few lines each.
use Rattle.std.specs.Prelude.{◌≡◌, ℕ, ◌≤◌, List, ◌++◌, length, take, Option, Some, None}
use Rattle.cov_ast.specs.Plain.{Plain}
use Rattle.cov_ast.specs.declared.decl.Program.{Program}
use Rattle.flow_model.specs.Agreement.{Agree, IsAlikeAt, IsFirstApart, Shared, shared_of}
use Rattle.flow_model.specs.FirstDifference as first
use Rattle.flow_model.specs.Runs as runs
use Rattle.flow_model.specs.Source as source
use Rattle.flow_model.specs.declared.agreement.Differ.{Differ}
use Rattle.flow_model.specs.declared.machine.Stepped.{Stepped}
use Rattle.risc_machine.specs.CodeAgreement.{HasSamePosition, shared_of_code}
use Rattle.risc_machine.specs.Machine.{CodeState, code_says, code_step}
use Rattle.risc_machine.specs.Running.{RunningCode}
use Rattle.risc_machine.specs.declared.parts.Parts.{Parts}
use Rattle.schedule_replay.specs.declared.replays.Found.{Found}
use Rattle.source_machine.specs.SourceMachine.{RunningProgram, run_of}

-- how many variables, locks and threads there are
pub record Declared : Type 0 where
  pub vars : ℕ
  pub locks : ℕ
  pub threads : ℕ

-- By what a machine runs, of such code and with such states: what the code declares, what a step of a thread makes of a
-- state and what it says, what the threads share in a state, and when a thread stands alike in two. Of a number past those of
-- the declared threads it always does.
pub record Semantics (Code State : Type 0) : Type 1 where
  pub declared : Code → Declared
  pub step : Code → State → ℕ → State
  pub says : Code → State → ℕ → Stepped
  pub shared : State → Shared
  pub IsAlike : State → State → ℕ → Type 0

-- what contracts see of a machine: its code, its state, and for how many outputs there is room
pub record Seen (Code State : Type 0) : Type 0 where
  pub code : Code
  pub state : State
  pub room : ℕ

-- The list goes on with at most one more.
pub record GrowsByOne (before after : List ℕ) : Type 0 where
  pub more : List ℕ
  pub few : length more ≤ 1
  pub grown : after ≡ before ++ more

-- what was run of a schedule, where it was run to its end or to a step
abbrev pub part_run : List ℕ → Option Found → List ℕ
part_run schedule None = schedule
part_run schedule (Some f) = take f.step schedule

module _ {Code State : Type 0} (semantics : Semantics Code State) where
  abbrev pub declared_by : Seen Code State → Declared
  declared_by m = semantics.declared m.code

  abbrev pub shared_in : Seen Code State → Shared
  shared_in m = semantics.shared m.state

  -- the state after a schedule, and how many of its steps stay
  abbrev pub state_after : Code → State → List ℕ → State
  state_after c s schedule = runs.run_from (semantics.step c) s schedule

  abbrev pub stayed_of : Code → State → List ℕ → ℕ
  stayed_of c s schedule = runs.stayed_from (semantics.step c) (semantics.says c) s schedule

  -- Two states agree.
  abbrev pub DoAgree : Plain → (s1 s2 : State) → Type 0
  DoAgree p s1 s2 = Agree semantics.shared semantics.IsAlike p s1 s2

  -- A thread stands alike in them.
  abbrev pub IsAlikeIn : (s1 s2 : State) → (t : ℕ) → Type 0
  IsAlikeIn s1 s2 t = semantics.IsAlike s1 s2 t

  -- Of so many threads it is the first that doesn't.
  abbrev pub IsFirstApartIn : (s1 s2 : State) → (count t : ℕ) → Type 0
  IsFirstApartIn s1 s2 count t = IsFirstApart semantics.IsAlike s1 s2 count t

  -- On what they differ.
  abbrev pub DifferIn : Plain → (s1 s2 : State) → Differ → Type 0
  DifferIn p s1 s2 d = first.DiffersIn semantics.shared semantics.IsAlike p s1 s2 d

  -- From two states the runs of a schedule agree throughout; or this is what is found.
  abbrev pub StayTogether : Plain → Code → (s1 s2 : State) → List ℕ → Type 0
  StayTogether p c s1 s2 schedule = runs.AgreeThroughout (semantics.step c) (DoAgree p) s1 s2 schedule

  abbrev pub ComeApart : Plain → Code → (s1 s2 : State) → List ℕ → Found → Type 0
  ComeApart p c s1 s2 schedule f = runs.IsFirstStepApart (semantics.step c) (DoAgree p) (DifferIn p) s1 s2 schedule f.step f.differ

  -- The next step of a thread is quiet: two states that agree, of which this is the first, agree after it if the thread stands
  -- alike in both then.
  abbrev pub IsQuiet : Code → State → (t : ℕ) → Type 0
  IsQuiet c s t =
      (p : Plain) (other : State) → DoAgree p s other → semantics.IsAlike (semantics.step c s t) (semantics.step c other t) t
      → DoAgree p (semantics.step c s t) (semantics.step c other t)

  -- what the next step of a thread says
  abbrev pub answer_of : Seen Code State → (t : ℕ) → Stepped
  answer_of m t = semantics.says m.code m.state t

  -- A machine after a step of a thread. At most one word was put out.
  pub record HasStepped (before now : Seen Code State) (t : ℕ) : Type 0 where
    pub code : now.code ≡ before.code
    pub room : now.room ≡ before.room
    pub state : now.state ≡ semantics.step before.code before.state t
    pub grows : GrowsByOne (semantics.shared before.state).outputs (semantics.shared now.state).outputs

-- The code declares as many variables, locks and threads as a program.
pub record AreDeclaredBy (d : Declared) (p : Program) : Type 0 where
  pub vars : d.vars ≡ length p.vars
  pub locks : d.locks ≡ length p.locks
  pub threads : d.threads ≡ length p.threads

-- The machines ---------------------------------------------------------------------------------------------------

-- the source machine
abbrev pub source_semantics : Semantics Program source.Run
source_semantics = record {
  declared = λ p. record { vars = length p.vars; locks = length p.locks; threads = length p.threads };
  step = λ p r t. source.step r t;
  says = λ p r t. source.says r t;
  shared = shared_of;
  IsAlike = IsAlikeAt;
}

abbrev pub seen_source : RunningProgram → Seen Program source.Run
seen_source m = record { code = m.program; state = run_of m; room = m.room }

-- the RISC machine
abbrev pub code_semantics : Semantics Parts CodeState
code_semantics = record {
  declared = λ c. record { vars = length c.vars; locks = length c.locks; threads = length c.threads };
  step = code_step;
  says = code_says;
  shared = shared_of_code;
  IsAlike = HasSamePosition;
}

abbrev pub seen_code : RunningCode → Seen Parts CodeState
seen_code m = record { code = m.parts; state = m.state; room = m.room }
