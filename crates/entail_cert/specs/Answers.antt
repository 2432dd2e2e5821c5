-- What an answer of the check says.
use Rattle.std.specs.Prelude.{◌≡◌, ℕ, List, Option, Some, None, Result, Ok, Err}
use Rattle.entail_cert.specs.declared.check.CertFault.{CertFault}
use Rattle.entail_cert.specs.declared.check.CertFault.TheVariants as fault

-- No node fails, or this is the first that does. Want of memory says nothing.
abbrev pub Answers : Option (List ℕ) → Result (Unit {0}) CertFault → Type 0
Answers bad (Ok _) = bad ≡ None
Answers bad (Err (fault.Invalid path)) = bad ≡ Some path
Answers bad (Err fault.NoMemory) = Unit {0}
