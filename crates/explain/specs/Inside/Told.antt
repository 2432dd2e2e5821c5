-- Words of private contracts: what steps add to a text. To believe what `explain` promises, nothing here need be read.
use Rattle.std.specs.Prelude.{◌≡◌, ◌⊎◌, ℕ, List, ◌++◌, Option, Some, None, Result, Ok, Err}
use Rattle.call_inputs.specs.Programs.{IsShownFault, SpellsProgram}
use Rattle.call_inputs.specs.Readings.{End}
use Rattle.call_reports.specs.Replies.{Reply, status_of}
use Rattle.call_reports.specs.declared.answers.Fault.{Fault}
use Rattle.call_reports.specs.declared.answers.Status.{Status}
use Rattle.call_reports.specs.declared.answers.Status.TheVariants as s
use Rattle.call_verdicts.specs.Levels.{LevelsInput}
use Rattle.cov_ast.specs.Syntax.{Parsed, Program}
use Rattle.cov_ast.specs.declared.refusal.Refusal.{Refusal}
use Rattle.cov_expr.specs.declared.list.NoMemory.{NoMemory}
use Rattle.cov_io.specs.Shelves.{Shelved}
use Rattle.explain.specs.FileCalls.{Outcome, Tells, out_of_memory, told}
use Rattle.explain.specs.LevelTellings.{RepliesFor, TellsOver, level_lines, malformed_lines, program_lines}
use Rattle.cov_ast.specs.Obligations.{first_false}
use Rattle.mode_compat.specs.Declared.{declaration_obligations}
use Rattle.policy_class.specs.Resolved.{resolved}
use Rattle.explain.specs.SuggestedTexts.{declared_lines, declared_status, searched_lines, searched_status, suggested_lines, suggested_status}
use Rattle.explain.specs.declared.manner.Manner.{Manner}
use Rattle.level_text.specs.Lattice.{Levels}

-- What is told of a file that was read so is added to a text, and its status is given; or memory ran out.
abbrev pub AddsTold : Manner → (name : List ℕ) → End (List ℕ) → (old new : List ℕ) → Result Status NoMemory → Type 0
AddsTold h name end old new (Ok status) =
    (reply : Reply) × (here : List ℕ) × Tells h name end reply here × (status ≡ status_of reply) × (new ≡ old ++ here)
AddsTold h name end old new (Err e) = Unit {0}

-- what a step comes to behind which the text is this
abbrev pub outcome_of : (text : List ℕ) → Result Status NoMemory → Outcome
outcome_of text (Ok status) = told text status
outcome_of text (Err e) = out_of_memory

-- The shelf is left as this, and the calls come to this.
abbrev pub IsLeft : (last : Shelved) → Outcome → Shelved → Outcome → Type 0
IsLeft last outcome shelf other = (shelf ≡ last) × (other ≡ outcome)

-- Suggestions ----------------------------------------------------------------------------------------------------

-- What a search comes to is added to a text, with its status; what is told of a text whose names are in order; and what is told of any.
abbrev pub IsSearched : Parsed → (old new : List ℕ) → Status → Type 0
IsSearched p old new status = (status ≡ searched_status p) × (new ≡ old ++ searched_lines p)

abbrev pub IsDeclared : (name bytes : List ℕ) → Parsed → (old new : List ℕ) → Status → Type 0
IsDeclared name bytes p old new status =
    (status ≡ declared_status p) × (new ≡ old ++ declared_lines name bytes p (first_false (declaration_obligations (resolved p))))

abbrev pub IsSuggested : (name bytes : List ℕ) → Parsed → (old new : List ℕ) → Status → Type 0
IsSuggested name bytes p old new status = (status ≡ suggested_status p) × (new ≡ old ++ suggested_lines name bytes p)

-- What is told of the bytes of a program for which certificates are searched is added to a text, with its status; or memory ran out.
abbrev pub AddsSuggested : (name bytes old new : List ℕ) → Result Status NoMemory → Type 0
AddsSuggested name bytes old new (Ok status) =
    ((p : Parsed) × SpellsProgram bytes p × IsSuggested name bytes p old new status)
    ⊎ ((fault : Fault) × IsShownFault bytes fault × (status ≡ s.Malformed) × (new ≡ old ++ malformed_lines name bytes fault))
AddsSuggested name bytes old new (Err e) = Unit {0}

-- Levels -------------------------------------------------------------------------------------------------------

-- The same of a file of levels.
abbrev pub AddsOver : (name bytes : List ℕ) → Parsed → (over : List ℕ) → End (List ℕ) → (old new : List ℕ) → Result Status NoMemory → Type 0
AddsOver name bytes p over end old new (Ok status) =
    (reply : Reply) × (here : List ℕ) × TellsOver name bytes p over end reply here × (status ≡ status_of reply) × (new ≡ old ++ here)
AddsOver name bytes p over end old new (Err e) = Unit {0}

-- What is told of a text and levels is added to a text, with the status that `levels` has for them.
abbrev pub IsToldFor : (name bytes : List ℕ) → LevelsInput → (old new : List ℕ) → Status → Type 0
IsToldFor name bytes i old new status = (reply : Reply) × RepliesFor i reply × (status ≡ status_of reply) × (new ≡ old ++ level_lines name bytes i)

-- the status, by the first observer for whom a program is refused
abbrev pub status_by : Option (ℕ × Refusal) → Status
status_by None = s.Done
status_by (Some r) = s.Refused

-- The same of a program, of which that is the first.
abbrev pub IsToldBy : (name bytes : List ℕ) → Levels → Program → Option (ℕ × Refusal) → (old new : List ℕ) → Status → Type 0
IsToldBy name bytes l p first old new status = (status ≡ status_by first) × (new ≡ old ++ program_lines name bytes l p first)
