-- The steps of readings that read one file: its bytes, or the program that it spells.
use Rattle.std.specs.Prelude.{◌≡◌, ℕ, List}
use Rattle.call_reports.specs.declared.answers.Fault.{Fault}
use Rattle.cov_ast.specs.Syntax.{Parsed}
use Rattle.cov_expr.specs.declared.limits.TheConstants.{MOST_BYTES}
use Rattle.call_inputs.specs.Programs.{IsShownFault, SpellsProgram}
use Rattle.call_inputs.specs.Readings.{Reading, file, gives}

-- the bytes of a file are these
abbrev pub AreThese : (read these : List ℕ) → Type 0
AreThese read these = these ≡ read

-- No bytes have a fault.
abbrev pub NoFault : List ℕ → Fault → Type 0
NoFault read fault = ⊥

-- a file, whatever its bytes are
abbrev pub bytes : (name : List ℕ) (most : ℕ) → Reading (List ℕ)
bytes name most = file name most AreThese NoFault (λ these. gives these)

-- a file that spells a program
abbrev pub program : (name : List ℕ) → Reading Parsed
program name = file name MOST_BYTES SpellsProgram IsShownFault (λ p. gives p)
