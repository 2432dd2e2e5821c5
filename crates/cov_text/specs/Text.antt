-- What a text spells, and its fault.
use Rattle.std.specs.Prelude.{◌≡◌, ℕ, List, [], length, ◌⊎◌, Option, Some, None, Result, Ok, Err}
use Rattle.cov_lex.specs.declared.token.Token as lexed
use Rattle.cov_lex.specs.declared.fault.LexFault.{LexFault}
use Rattle.cov_lex.specs.declared.fault.LexFault.TheVariants as lex
use Rattle.cov_lex.specs.Lexing.{tokens_of}
use Rattle.cov_grammar.specs.declared.token.Token.{Token}
use Rattle.cov_grammar.specs.declared.fault.TokenFault.{TokenFault}
use Rattle.cov_grammar.specs.declared.fault.TokenFault.TheVariants as tokens
use Rattle.cov_grammar.specs.PlacedTrees.{Program, Placed}
use Rattle.cov_grammar.specs.Shapes.{Shape}
use Rattle.cov_grammar.specs.Spells.{Is, FirstWrong, spot}
use Rattle.cov_expr.specs.Term.{Term}
use Rattle.cov_ast.specs.Syntax as syntax
use Rattle.cov_ast.specs.declared.parsed.NameUse.{NameUse}
use Rattle.cov_text.specs.declared.fault.ParseFault.{ParseFault}
use Rattle.cov_text.specs.declared.fault.ParseFault.TheVariants as faults
use Rattle.cov_text.specs.declared.fault.Limit.{Limit}
use Rattle.cov_text.specs.declared.fault.Limit.TheVariants.{TooMany, TooDeep}
use Rattle.cov_text.specs.declared.fault.Excess.{Excess}
use Rattle.cov_text.specs.Numbered as words
use Rattle.cov_text.specs.Versioned.{versioned}
use Rattle.cov_text.specs.Depth.{deep}
use Rattle.cov_text.specs.Uses.{uses_of}
use Rattle.cov_text.specs.GivenTrees.{parsed_of, expr_of}

-- Tokens -------------------------------------------------------------------------------------------------------

abbrev pub or_none : Result (List lexed.Token) LexFault → List lexed.Token
or_none (Ok ts) = ts
or_none (Err fault) = []

-- the tokens of a text, if it has any
unfoldable pub lexed_of : List ℕ → List lexed.Token
lexed_of text = or_none (tokens_of text)

-- the same, each with its kind and its value
unfoldable pub numbered_of : List ℕ → List Token
numbered_of text = words.words_of text (lexed_of text)

-- the same as the grammar takes them, of which each is a word of the text's version or foreign
unfoldable pub words_of : List ℕ → List Token
words_of text = versioned (numbered_of text)

-- the names of a text, each where it first occurs
unfoldable pub names_of : List ℕ → List (List ℕ)
names_of text = words.names_of text (lexed_of text)

-- Faults -------------------------------------------------------------------------------------------------------

abbrev pub lexical : LexFault → ParseFault
lexical (lex.BadByte at) = faults.BadByte at
lexical (lex.NumberTooLarge at) = faults.NumberTooLarge at
lexical (lex.NameTooLong at) = faults.NameTooLong at
lexical lex.NoMemory = faults.NoMemory

abbrev pub unexpected : TokenFault → ParseFault
unexpected (tokens.Unexpected at) = faults.Unexpected at
unexpected tokens.NoMemory = faults.NoMemory

abbrev pub fault_at : (at : ℕ) → Limit → ParseFault
fault_at at (TooMany c) = faults.TooMany c at
fault_at at TooDeep = faults.TooDeep at

abbrev pub fault_of : Excess → ParseFault
fault_of x = fault_at x.at x.limit

-- The text has a lexical fault, or else is too deep by brackets or marks.
abbrev pub IsFirstFault : Result (List lexed.Token) LexFault → List Token → ParseFault → Type 0
IsFirstFault (Err e) ws fault = fault ≡ lexical e
IsFirstFault (Ok ts) ws fault = (at : ℕ) × (deep 0 0 ws ≡ Some at) × (fault ≡ faults.TooDeep at)

-- The text has tokens that aren't too deep.
pub record IsShallow (text : List ℕ) : Type 0 where
  pub lexes : tokens_of text ≡ Ok (lexed_of text)
  pub shallow : deep 0 0 (words_of text) ≡ None

module _ {A : Type 0} (a : Shape A) (limits : A → Option Excess) (text : List ℕ) where
  -- The text spells the tree, within the limits.
  pub record IsText (tree : A) : Type 0 where
    pub tokens : IsShallow text
    pub spelled : Is a tree (words_of text)
    pub small : limits tree ≡ None

  -- A token of the text is the first wrong one.
  pub record IsUnexpected (fault : ParseFault) : Type 0 where
    pub tokens : IsShallow text
    pub bad : List Token
    pub first : FirstWrong a (words_of text) bad
    pub is : fault ≡ faults.Unexpected (spot (length text) bad)

  -- The text spells a tree that breaks a limit; the fault is the one of least place.
  pub record IsPastLimit (fault : ParseFault) : Type 0 where
    pub tokens : IsShallow text
    pub tree : A
    pub spelled : Is a tree (words_of text)
    pub excess : Excess
    pub least : limits tree ≡ Some excess
    pub is : fault ≡ fault_of excess

  -- The first fault of the text: of its bytes, of its brackets, of its tokens, of its tree.
  abbrev pub IsFault : ParseFault → Type 0
  IsFault fault = IsFirstFault (tokens_of text) (words_of text) fault ⊎ IsUnexpected fault ⊎ IsPastLimit fault

  -- The answer is a tree that the text spells, as callers get it, or the first fault of the text, unless memory ran out.
  abbrev pub Answers : {X B : Type 0} → (view : X → B) → (made : A → B) → Result X ParseFault → Type 0
  Answers view made (Ok x) = (tree : A) × IsText tree × (view x ≡ made tree)
  Answers view made (Err faults.NoMemory) = Unit {0}
  Answers view made (Err fault) = IsFault fault

-- The answer is this, unless memory ran out.
abbrev pub Only : {X B : Type 0} → (view : X → B) → B → Result X ParseFault → Type 0
Only view v (Ok x) = view x ≡ v
Only view v (Err faults.NoMemory) = Unit {0}
Only view v (Err fault) = ⊥

-- Programs and expressions -------------------------------------------------------------------------------------

-- the tree of a program, as callers get it
abbrev pub program_of : List ℕ → Program → syntax.Parsed
program_of text p = parsed_of (names_of text) (uses_of (words_of text)) p

-- what callers get of a text that is one expression
pub record Expression : Type 0 where
  pub names : List (List ℕ)
  pub uses : List NameUse
  pub expr : Term

abbrev pub expression_of : List ℕ → Placed Term → Expression
expression_of text e = record { names = names_of text; uses = uses_of (words_of text); expr = expr_of e }
