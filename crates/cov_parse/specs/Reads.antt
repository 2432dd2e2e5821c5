-- What parts of the code answer. These are words of the code's contracts.
use Rattle.std.specs.Prelude.{◌≡◌, ℕ, List, None, Result, Ok, Err}
use Rattle.cov_expr.specs.View.{term}
use Rattle.cov_expr.specs.declared.expr.Expr.{Expr}
use Rattle.cov_lex.specs.Lexing.{tokens_of}
use Rattle.cov_text.specs.declared.fault.ParseFault.{ParseFault}
use Rattle.cov_text.specs.declared.fault.ParseFault.TheVariants as faults
use Rattle.cov_parse.specs.declared.tokens.Tokens.{Tokens}
use Rattle.cov_parse.specs.declared.text.ParsedExpr.{ParsedExpr}
use Rattle.cov_ast.specs.declared.parsed.NameUse.{NameUse}
use Rattle.cov_grammar.specs.Grammar.{program}
use Rattle.cov_grammar.specs.Spells.{Is}
use Rattle.cov_read.specs.DeclViews as decls
use Rattle.cov_read.specs.declared.decl.PlacedProgram.{PlacedProgram}
use Rattle.cov_text.specs.Limits.{in_program}
use Rattle.cov_text.specs.Text.{words_of, names_of, IsShallow, IsFirstFault, IsFault, Expression}
use Rattle.cov_text.specs.Uses.{uses_of}

-- tokens that aren't too deep, or the first fault of bytes or brackets
abbrev pub Reads : (text : List ℕ) → Result Tokens ParseFault → Type 0
Reads text (Ok w) = IsShallow text × (w.names ≡ names_of text) × (w.tokens ≡ words_of text)
Reads text (Err faults.NoMemory) = Unit {0}
Reads text (Err fault) = IsFirstFault (tokens_of text) (words_of text) fault

-- a program that the text spells within the limits, and where names are used, or the first fault of tokens or of limits
abbrev pub Finds : (text : List ℕ) → Result (PlacedProgram × List NameUse) ParseFault → Type 0
Finds text (Ok found) = Is program (decls.program found.0) (words_of text) × (in_program (decls.program found.0) ≡ None) × (found.1 ≡ uses_of (words_of text))
Finds text (Err faults.NoMemory) = Unit {0}
Finds text (Err fault) = IsFault program in_program text fault

-- what callers get of one expression of the text, and of where it uses names
abbrev pub found_expr : (text : List ℕ) → Expr × List NameUse → Expression
found_expr text found = record { names = names_of text; uses = found.1; expr = term found.0 }

-- what callers get of one expression
abbrev pub parsed_expr : ParsedExpr → Expression
parsed_expr p = record { names = p.names; uses = p.uses; expr = term p.expr }
