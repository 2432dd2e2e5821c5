-- What reading a text keeps to: it does what the definition by cases does, and no list outgrows the lines.
use Rattle.std.specs.Prelude.{◌≡◌, ℕ, ◌≤◌, List, [], ◌∷◌, length, Option, Some, None, Result, Ok, Err}
use Rattle.cov_expr.specs.Names.{IsName}
use Rattle.risc_machine.specs.declared.parts.Parts.{Parts}
use Rattle.risc_machine.specs.declared.parts.ThreadCode.{ThreadCode}
use Rattle.code_text.specs.Inside.ListingReading.{Draft, with_row}
use Rattle.code_text.specs.declared.fault.CodeFault.{CodeFault}
use Rattle.code_text.specs.declared.fault.CodeFault.TheVariants.{Line, Bad, NoMemory}
use Rattle.code_text.specs.declared.row.Row.{Row}
use Rattle.code_text.specs.declared.row.Row.TheVariants as row

-- What the code reads, seen by `view`, is what the definition reads, unless memory runs out.
abbrev pub Agrees : {A : Type 0} → (A → Parts) → Result A CodeFault → Result Parts ℕ → Type 0
Agrees view (Ok a) r = r ≡ Ok (view a)
Agrees view (Err (Line n)) r = r ≡ Err n
Agrees view (Err (Bad f)) r = ⊥
Agrees view (Err NoMemory) r = Unit {0}

-- Lines that were added end as the definition does, with the parts of the draft, unless memory runs out.
abbrev pub Ends : Result (Unit {0}) CodeFault → Draft → Result Parts ℕ → Type 0
Ends (Ok _) d r = r ≡ Ok d.parts
Ends (Err (Line n)) d r = r ≡ Err n
Ends (Err (Bad f)) d r = ⊥
Ends (Err NoMemory) d r = Unit {0}

-- What becomes of a draft by the line of number `n`, which is this row or none, unless memory runs out.
abbrev pub AddsLine : (n : ℕ) → Draft → Option Row → Draft → Result (Unit {0}) CodeFault → Type 0
AddsLine n d o e (Ok _) = (r : Row) × (o ≡ Some r) × (e ≡ with_row d r)
AddsLine n d o e (Err (Line m)) = (m ≡ n) × (o ≡ None)
AddsLine n d o e (Err (Bad f)) = ⊥
AddsLine n d o e (Err NoMemory) = Unit {0}

abbrev pub AreShort : ℕ → List ThreadCode → Type 0
AreShort n [] = Unit {0}
AreShort n (t ∷ ts) = (length t.lines ≤ n) × AreShort n ts

-- No list of the parts is longer than so many lines are.
pub record IsSmall (n : ℕ) (p : Parts) : Type 0 where
  pub vars : length p.vars ≤ n
  pub locks : length p.locks ≤ n
  pub threads : length p.threads ≤ n
  pub lines : AreShort n p.threads

-- A row may stand behind what was read: its name is one, variables stand before locks, and both before threads.
abbrev pub CanStand : Draft → Row → Type 0
CanStand d (row.Var n) = IsName n × (d.parts.locks ≡ []) × (d.parts.threads ≡ [])
CanStand d (row.Lock n) = IsName n × (d.parts.threads ≡ [])
CanStand d (row.Thread n count) = Unit {0}
CanStand d (row.Line l) = Unit {0}
