-- What reading answers.
use Rattle.std.specs.Prelude.{◌≡◌, ℕ, ◌-◌, List, take, Result, Ok, Err, Some, None}
use Rattle.risc_machine.specs.Faults.{fault_of}
use Rattle.risc_machine.specs.declared.parts.Parts.{Parts}
use Rattle.code_text.specs.Listing.{IsListingOf, lines_of, BeginsListing}
use Rattle.code_text.specs.declared.fault.CodeFault.{CodeFault}
use Rattle.code_text.specs.declared.fault.CodeFault.TheVariants.{Line, Bad, NoMemory}

-- The text is no listing, and of its lines those before number `n` begin one, but together with that line they begin none.
-- Lines are numbered from 1. What stands behind the last line feed, if only nothing, is a line that begins none: so a text
-- that ends too early is faulty behind its last whole line.
pub record IsFaultyLine (text : List ℕ) (n : ℕ) : Type 0 where
  pub unlisted : (p : Parts) → ¬ IsListingOf p text
  pub before : BeginsListing (take (n - 1) (lines_of text))
  pub faulty : ¬ BeginsListing (take n (lines_of text))

-- What an answer says of the text: it is the listing of the code, or of parts with this first fault, or its first faulty line
-- has this number.
abbrev pub IsReading : List ℕ → Result Parts CodeFault → Type 0
IsReading text (Ok p) = IsListingOf p text × (fault_of p ≡ None)
IsReading text (Err (Bad f)) = (p : Parts) × IsListingOf p text × (fault_of p ≡ Some f)
IsReading text (Err (Line n)) = IsFaultyLine text n
IsReading text (Err NoMemory) = Unit {0}

-- What is answered to the listing of parts, unless memory runs out: the parts where they are code, or else their first fault.
abbrev pub IsAnswerTo : Parts → Result Parts CodeFault → Type 0
IsAnswerTo p (Ok code) = (fault_of p ≡ None) × (code ≡ p)
IsAnswerTo p (Err (Bad f)) = fault_of p ≡ Some f
IsAnswerTo p (Err (Line n)) = ⊥
IsAnswerTo p (Err NoMemory) = Unit {0}
