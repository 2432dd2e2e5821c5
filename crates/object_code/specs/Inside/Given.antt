-- What a reader of the code gives, beside the definition of reading.
use Rattle.std.specs.Prelude.{◌≡◌, ℕ, ◌≤◌, List, All, Result, Ok, Err, Some, None}
use Rattle.cov_expr.specs.Names.{IsName}
use Rattle.risc_machine.specs.Faults.{fault_of}
use Rattle.risc_machine.specs.declared.parts.Line.{Line}
use Rattle.risc_machine.specs.declared.parts.Parts.{Parts}
use Rattle.risc_machine.specs.declared.parts.ThreadCode.{ThreadCode}
use Rattle.code_text.specs.Listing.{HasWords}
use Rattle.object_code.specs.declared.fault.ObjectFault.{ObjectFault}
use Rattle.object_code.specs.declared.fault.ObjectFault.TheVariants as faults
use Rattle.object_code.specs.declared.stop.Stop.{Stop}
use Rattle.object_code.specs.declared.stop.Stop.TheVariants.{Left, NoMemory}

-- Reading stopped where the definition stops, unless memory ran out.
abbrev pub Stops : {B : Type 0} → Stop → Result B ℕ → Type 0
Stops (Left n) read = read ≡ Err n
Stops NoMemory read = Unit {0}

-- What was read, seen by `view`, is what the definition reads, unless memory ran out.
abbrev pub Gives : {A B : Type 0} → (A → B) → Result A Stop → Result B ℕ → Type 0
Gives view (Ok a) read = read ≡ Ok (view a)
Gives view (Err e) read = Stops e read

-- What is answered of parts: the code that they are, or their first fault.
abbrev pub Judges : Parts → Result Parts ObjectFault → Type 0
Judges p (Ok code) = (code ≡ p) × (fault_of p ≡ None)
Judges p (Err (faults.Code f)) = fault_of p ≡ Some f
Judges p (Err (faults.Bad at)) = ⊥
Judges p (Err faults.NoMemory) = Unit {0}

-- The weights of lines are in range.
abbrev pub AreWritten : List Line → Type 0
AreWritten ls = All (λ l. l.weight ≤ 2) ls

-- The numbers of lines are words.
abbrev pub AreOfWords : List Line → Type 0
AreOfWords ls = All (λ l. HasWords l.instr) ls

abbrev pub IsOfWords : ThreadCode → Type 0
IsOfWords t = IsName t.name × AreOfWords t.lines
