-- What it means that a printed program is read back.
use Rattle.std.specs.Prelude.{◌≡◌, ℕ, ◌≤◌, List, length}
use Rattle.cov_expr.specs.declared.limits.TheConstants.{MOST_BYTES}
use Rattle.cov_ast.specs.Syntax.{Parsed}
use Rattle.cov_grammar.specs.PlacedTrees.{Program}
use Rattle.cov_grammar.specs.Grammar.{program}
use Rattle.cov_text.specs.Limits.{in_program}
use Rattle.cov_text.specs.Text.{IsText, program_of}
use Rattle.cov_print.specs.Unplaced.{unplaced}

-- A text spells a program, places aside: within the limits, by the tokens and the grammar of the language.
pub record SpellsProgram (text : List ℕ) (p : Parsed) : Type 0 where
  pub tree : Program
  pub is_text : IsText program in_program text tree
  pub same : unplaced (program_of text tree) ≡ unplaced p

-- A text spells a program where some text does, however long that one is, unless it is longer itself than a text may be.
unfoldable pub SpellsAgain : (printed : List ℕ) → Parsed → Type 0
SpellsAgain printed p = (text : List ℕ) → SpellsProgram text p → length printed ≤ MOST_BYTES → SpellsProgram printed p

-- the same program in version 2 of the language
abbrev pub in_second : Parsed → Parsed
in_second p = record { version = 2; names = p.names; uses = p.uses; vars = p.vars; locks = p.locks; threads = p.threads }

-- A text spells a program in version 2 where some text spells the program, in whichever version, unless it is longer than a
-- text may be.
unfoldable pub SpellsInSecond : (printed : List ℕ) → Parsed → Type 0
SpellsInSecond printed p = (text : List ℕ) → SpellsProgram text p → length printed ≤ MOST_BYTES → SpellsProgram printed (in_second p)
