-- Words of private contracts. What is promised doesn't rest on them.
use Rattle.std.specs.Prelude.{◌≡◌, ℕ, ◌+◌, ◌≤◌, List, length, take, Bool, true, false, Option, Some, None, Result, Ok, Err}
use Rattle.cov_ast.specs.Plain.{Plain}
use Rattle.flow_model.specs.Runs.{AgreeBefore, after_steps}
use Rattle.risc_machine.specs.declared.parts.Instr.{Instr}
use Rattle.risc_machine.specs.declared.parts.Instr.TheVariants.{Load, Store, Jump, Jz, Nop, MovC, MovR, Bin, Acquire, Release, Out}
use Rattle.risc_machine.specs.declared.parts.Line.{Line}
use Rattle.serde_json.specs.View.{view}
use Rattle.serde_json.specs.declared.value.Value.{Value}
use Rattle.source_machine.specs.declared.change.Change.{Change}
use Rattle.source_machine.specs.declared.change.Change.TheVariants as change
use Rattle.schedule_replay.specs.Json.{value_of}
use Rattle.schedule_replay.specs.Machines.{DoAgree, Semantics, Seen}
use Rattle.schedule_replay.specs.declared.values.Unread.{Unread}
use Rattle.schedule_replay.specs.declared.values.Unread.TheVariants as unread

-- whether a step changes nothing but what remains of its thread
abbrev pub is_quiet : Change → Bool
is_quiet change.Nothing = true
is_quiet (change.Word x) = false
is_quiet (change.Holder l) = false
is_quiet change.Outputs = false

-- whether a step stores
abbrev pub stores : Change → Bool
stores change.Nothing = false
stores (change.Word x) = true
stores (change.Holder l) = false
stores change.Outputs = false

-- whether an instruction changes nothing but registers and the position of its thread
abbrev pub is_quiet_instr : Instr → Bool
is_quiet_instr (Load r x) = true
is_quiet_instr (Store x r) = false
is_quiet_instr (Jump i) = true
is_quiet_instr (Jz r i) = true
is_quiet_instr Nop = true
is_quiet_instr (MovC r k) = true
is_quiet_instr (MovR r q) = true
is_quiet_instr (Bin op r q) = true
is_quiet_instr (Acquire l) = false
is_quiet_instr (Release l) = false
is_quiet_instr (Out r) = false

abbrev pub is_quiet_line : Option Line → Bool
is_quiet_line None = true
is_quiet_line (Some l) = is_quiet_instr l.instr

-- So many of the first items are in both lists, and the same.
pub record HasSameFront (n : ℕ) (xs ys : List ℕ) : Type 0 where
  pub left : n ≤ length xs
  pub right : n ≤ length ys
  pub same : take n xs ≡ take n ys

module _ {Code State : Type 0} (semantics : Semantics Code State) where
  -- Two states agree where those before them did.
  abbrev pub KeepsAgreement : (s1 s2 now other : State) → Type 0
  KeepsAgreement s1 s2 now other = (p : Plain) → DoAgree semantics p s1 s2 → DoAgree semantics p now other

  -- Two runs agree after each step before one of this number, counted from 1.
  abbrev pub AgreedSoFar : Plain → Code → (s1 s2 : State) → List ℕ → ℕ → Type 0
  AgreedSoFar p c s1 s2 schedule n = AgreeBefore (semantics.step c) (DoAgree semantics p) s1 s2 schedule n

  -- A machine that runs such code after so many steps of a schedule, with room for an output of each.
  pub record HasRun (c : Code) (before now : Seen Code State) (schedule : List ℕ) (k : ℕ) : Type 0 where
    pub code : now.code ≡ c
    pub room : now.room ≡ before.room
    pub state : now.state ≡ after_steps (semantics.step c) before.state schedule k
    pub outputs : length (semantics.shared now.state).outputs ≤ length (semantics.shared before.state).outputs + k

-- What was read is the value of the bytes, or they have none; else memory ran out.
abbrev pub IsRead : List ℕ → Result Value Unread → Type 0
IsRead bytes (Ok value) = value_of bytes ≡ Some (view value)
IsRead bytes (Err unread.Json) = value_of bytes ≡ None
IsRead bytes (Err unread.NoMemory) = Unit {0}
