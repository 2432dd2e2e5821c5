-- E of `run-until`: what a word is read as that is an expression over the variables of a program.
use Rattle.std.specs.Prelude.{◌≡◌, ◌⊎◌, ℕ, List, [], ◌∷◌, length, get_or, nat_lt, if◌then◌else◌, Option, Some, None}
use Rattle.cov_ast.specs.NameTables.{number_of}
use Rattle.cov_ast.specs.Syntax.{Parsed}
use Rattle.cov_ast.specs.declared.parsed.NameUse.{NameUse}
use Rattle.cov_expr.specs.Term.{Term, const, var, neg, bin}
use Rattle.cov_grammar.specs.Grammar as grammar
use Rattle.cov_grammar.specs.PlacedTrees.{Placed}
use Rattle.cov_text.specs.Limits.{in_expr}
use Rattle.cov_text.specs.Text.{IsText, IsFault, Expression, expression_of}
use Rattle.cov_text.specs.declared.fault.ParseFault.{ParseFault}
use Rattle.policy_class.specs.Resolved.{var_names}
use Rattle.call_inputs.specs.Programs.{shown}
use Rattle.call_reports.specs.declared.answers.Fault.{Fault}
use Rattle.call_reports.specs.declared.answers.Fault.TheVariants as f
use Rattle.call_reports.specs.declared.answers.FaultKind.TheVariants as k

-- Names --------------------------------------------------------------------------------------------------------

-- the names of the variables that are declared, in their order, and those that an expression uses, by their numbers
module _ (declared names : List (List ℕ)) where
  -- the place of the first variable with a name, or how many there are where none has it
  abbrev pub id_of : ℕ → ℕ
  id_of number = number_of declared (get_or names number [])

  -- where the first name stands that is no variable
  abbrev pub first_unknown : List NameUse → Option ℕ
  first_unknown [] = None
  first_unknown (u ∷ us) = if nat_lt (id_of u.name) (length declared) then first_unknown us else Some u.at

  -- the expression in which each variable is the place of its declaration
  abbrev pub by_id : Term → Term
  by_id (const k) = const k
  by_id (var x) = var (id_of x)
  by_id (neg e) = neg (by_id e)
  by_id (bin op a b) = bin op (by_id a) (by_id b)

-- Words --------------------------------------------------------------------------------------------------------

-- The bytes spell an expression of the language, within its limits.
abbrev pub SpellsExpression : List ℕ → Placed Term → Type 0
SpellsExpression bytes tree = IsText grammar.whole in_expr bytes tree

-- where the first name of an expression stands that is no variable of a program
abbrev pub unknown_in : Parsed → Expression → Option ℕ
unknown_in p x = first_unknown (var_names p) x.names x.uses

-- an expression over the variables of a program
abbrev pub over : Parsed → Expression → Term
over p x = by_id (var_names p) x.names x.expr

-- The bytes are an expression over the variables of a program.
pub record IsExpression (p : Parsed) (bytes : List ℕ) (e : Term) : Type 0 where
  pub tree : Placed Term
  pub spelled : SpellsExpression bytes tree
  pub known : unknown_in p (expression_of bytes tree) ≡ None
  pub is : e ≡ over p (expression_of bytes tree)

-- The bytes spell an expression in which a name, the first such, is no variable.
pub record IsUnknownName (p : Parsed) (bytes : List ℕ) (fault : Fault) : Type 0 where
  pub tree : Placed Term
  pub spelled : SpellsExpression bytes tree
  pub at : ℕ
  pub first : unknown_in p (expression_of bytes tree) ≡ Some at
  pub is : fault ≡ f.Text k.Unknown at

-- The first fault of the bytes, which are no expression over the variables of a program, is shown so.
abbrev pub IsExpressionFault : Parsed → List ℕ → Fault → Type 0
IsExpressionFault p bytes fault =
    ((found : ParseFault) × IsFault grammar.whole in_expr bytes found × (shown found ≡ Some fault)) ⊎ IsUnknownName p bytes fault
