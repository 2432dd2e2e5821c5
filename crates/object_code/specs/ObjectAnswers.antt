-- What reading answers.
use Rattle.std.specs.Prelude.{◌≡◌, ℕ, ◌+◌, ◌<◌, ◌≤◌, List, length, take, Result, Ok, Err, Some, None}
use Rattle.risc_machine.specs.Faults.{fault_of}
use Rattle.risc_machine.specs.declared.parts.CodeBad.{CodeBad}
use Rattle.risc_machine.specs.declared.parts.CodeBad.TheVariants as bad
use Rattle.risc_machine.specs.declared.parts.Parts.{Parts}
use Rattle.object_code.specs.Object.{IsObjectOf, BeginsObject}
use Rattle.object_code.specs.declared.fault.ObjectFault.{ObjectFault}
use Rattle.object_code.specs.declared.fault.ObjectFault.TheVariants.{Bad, Code, NoMemory}

-- The bytes are no object. With the first `at` of them some object begins. Where a byte stands behind these, no object begins with
-- that byte too; where none does, the bytes end too early.
pub record IsFaultyByte (bytes : List ℕ) (at : ℕ) : Type 0 where
  pub unread : (p : Parts) → ¬ IsObjectOf p bytes
  pub within : at ≤ length bytes
  pub before : BeginsObject (take at bytes)
  pub faulty : at < length bytes → ¬ BeginsObject (take (at + 1) bytes)

-- What an answer says of the bytes: they are the object of the code, or of parts with this first fault, or their first faulty
-- byte stands behind so many.
abbrev pub IsReading : List ℕ → Result Parts ObjectFault → Type 0
IsReading bytes (Ok p) = IsObjectOf p bytes × (fault_of p ≡ None)
IsReading bytes (Err (Code f)) = (p : Parts) × IsObjectOf p bytes × (fault_of p ≡ Some f)
IsReading bytes (Err (Bad at)) = IsFaultyByte bytes at
IsReading bytes (Err NoMemory) = Unit {0}

-- What is answered to the object of parts, unless memory runs out: the parts where they are code, or else their first fault.
abbrev pub IsAnswerTo : Parts → Result Parts ObjectFault → Type 0
IsAnswerTo p (Ok code) = (fault_of p ≡ None) × (code ≡ p)
IsAnswerTo p (Err (Code f)) = fault_of p ≡ Some f
IsAnswerTo p (Err (Bad at)) = ⊥
IsAnswerTo p (Err NoMemory) = Unit {0}

-- the faults that parts with an object may have
abbrev pub IsFaultOfObject : CodeBad → Type 0
IsFaultOfObject (bad.BadVersion v) = ⊥
IsFaultOfObject (bad.SameName n) = Unit {0}
IsFaultOfObject (bad.BadWeight t i) = ⊥
IsFaultOfObject (bad.BadRegister t i) = ⊥
IsFaultOfObject (bad.BadVariable t i) = ⊥
IsFaultOfObject (bad.BadLock t i) = ⊥
IsFaultOfObject (bad.BadTarget t i) = Unit {0}
IsFaultOfObject (bad.BadOut t i) = ⊥
