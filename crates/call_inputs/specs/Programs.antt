-- The text of a program.
use Rattle.std.specs.Prelude.{◌≡◌, ℕ, List, Option, Some, None}
use Rattle.cov_ast.specs.Syntax.{Parsed}
use Rattle.cov_grammar.specs.PlacedTrees as trees
use Rattle.cov_grammar.specs.Grammar as grammar
use Rattle.cov_text.specs.Limits.{in_program}
use Rattle.cov_text.specs.Text.{IsText, IsFault, program_of}
use Rattle.cov_text.specs.declared.fault.ParseFault.{ParseFault}
use Rattle.cov_text.specs.declared.fault.ParseFault.TheVariants as faults
use Rattle.call_reports.specs.declared.answers.Fault.{Fault}
use Rattle.call_reports.specs.declared.answers.Fault.TheVariants as f
use Rattle.call_reports.specs.declared.answers.FaultKind.TheVariants as k

-- The bytes spell a program of the language, within its limits.
abbrev pub SpellsTree : List ℕ → trees.Program → Type 0
SpellsTree bytes tree = IsText grammar.program in_program bytes tree

-- The bytes spell a program, which callers get so.
abbrev pub SpellsProgram : List ℕ → Parsed → Type 0
SpellsProgram bytes p = (tree : trees.Program) × SpellsTree bytes tree × (p ≡ program_of bytes tree)

-- a fault of a text as reports show it; want of memory is none
abbrev pub shown : ParseFault → Option Fault
shown (faults.BadByte at) = Some (f.Text k.Byte at)
shown (faults.NumberTooLarge at) = Some (f.Text k.Number at)
shown (faults.NameTooLong at) = Some (f.Text k.Name at)
shown (faults.Unexpected at) = Some (f.Text k.Token at)
shown (faults.TooMany what at) = Some (f.Text k.Limit at)
shown (faults.TooDeep at) = Some (f.Text k.Depth at)
shown faults.NoMemory = None

-- The first fault of the bytes, which spell no program, is shown so.
abbrev pub IsShownFault : List ℕ → Fault → Type 0
IsShownFault bytes fault = (found : ParseFault) × IsFault grammar.program in_program bytes found × (shown found ≡ Some fault)
