-- Numbered trials of a program: two memories and a schedule each, which trials are fit, and the first whose two runs don't agree.
use Rattle.std.specs.Prelude.{◌≡◌, ℕ, ◌+◌, ◌*◌, ◌%◌, ◌<◌, ◌≤◌, ◌==◌, List, [], length, map, get_or, count_by, Bool, is_none, if◌then◌else◌, Option, Some, None}
use Rattle.std.specs.List.{range_with_len}
use Rattle.cov_ast.specs.Plain.{Plain}
use Rattle.flow_model.specs.Agreement.{AreFitStarts}
use Rattle.flow_model.specs.FirstDifference.{is_low_in, first_bad_start}
use Rattle.flow_model.specs.Source.{begin}
use Rattle.schedule_replay.specs.Replays.{AgreeThroughout, IsFirstStepApart}
use Rattle.schedule_replay.specs.declared.replays.Found.{Found}
use Rattle.watch.specs.TrialWords.{drawn, raw_word}
use Rattle.refute.specs.declared.inputs.Trial.{Trial}

-- how many entries the schedule of a trial has, where there are threads
unfoldable pub trial_steps : ℕ
trial_steps = 200

-- One trial, by its number -------------------------------------------------------------------------------------

module _ (p : Plain) (i : ℕ) where
  abbrev pub first_memory : List ℕ
  first_memory = map (raw_word i 1) (range_with_len 0 (length p.vars))

  -- The word of a variable in the second memory: where the variable is low in the first memory, its word there.
  abbrev pub second_word : ℕ → ℕ
  second_word x = if is_low_in p first_memory x then get_or first_memory x 0 else raw_word i 2 x

  abbrev pub second_memory : List ℕ
  second_memory = map second_word (range_with_len 0 (length p.vars))

  -- the thread whose turn comes after so many entries
  abbrev pub entry : ℕ → ℕ
  entry j = drawn (1000000 + 256 * i + j) % length p.threads

  -- without threads there is no entry
  abbrev pub schedule : List ℕ
  schedule = if length p.threads == 0 then [] else map entry (range_with_len 0 trial_steps)

  -- The two memories are fit to start from.
  abbrev pub IsFit : Type 0
  IsFit = AreFitStarts p first_memory second_memory

  -- whether they are: exactly where nothing makes them unfit (`no_bad_start_is_fitness` of flow_model)
  abbrev pub is_fit : Bool
  is_fit = is_none (first_bad_start p first_memory second_memory)

  -- Where the trial is fit, its two runs agree after each step.
  abbrev pub AgreesIfFit : Type 0
  AgreesIfFit = IsFit → AgreeThroughout p (begin p first_memory) (begin p second_memory) schedule

  -- The trial is fit, and this is the first step after which its two runs don't agree, with what they differ in there.
  abbrev pub IsApart : Found → Type 0
  IsApart found = IsFit × IsFirstStepApart p (begin p first_memory) (begin p second_memory) schedule found

-- The memories and the schedule are those of the trial with this number.
pub record IsTrial (p : Plain) (i : ℕ) (t : Trial) : Type 0 where
  pub left : t.left ≡ first_memory p i
  pub right : t.right ≡ second_memory p i
  pub entries : t.entries ≡ schedule p i

-- Many trials, numbered from 1 ---------------------------------------------------------------------------------

-- Each trial before one of this number agrees, if it is fit.
abbrev pub AgreeBefore : Plain → ℕ → Type 0
AgreeBefore p n = (i : ℕ) → i < n → 0 < i → AgreesIfFit p i

-- Of so many trials it is the first that is fit and whose two runs don't agree after some step, with the first such step.
pub record IsFirstApart (p : Plain) (n i : ℕ) (found : Found) : Type 0 where
  pub some : 0 < i
  pub within : i ≤ n
  pub before : AgreeBefore p i
  pub apart : IsApart p i found

-- There is no such trial, or it is this one.
abbrev pub IsFirstTrial : Plain → (n : ℕ) → Option (ℕ × Found) → Type 0
IsFirstTrial p n None = AgreeBefore p (n + 1)
IsFirstTrial p n (Some r) = IsFirstApart p n r.0 r.1

-- how many of so many trials are fit
abbrev pub fit_among : Plain → ℕ → ℕ
fit_among p n = count_by (is_fit p) (range_with_len 1 n)

-- the last trial that is looked at: the one that is found, or the last of all
abbrev pub last_of : (n : ℕ) → Option (ℕ × Found) → ℕ
last_of n None = n
last_of n (Some r) = r.0
