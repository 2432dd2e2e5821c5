-- Where it is declared what asks for an entailment: the class of a variable, or the invariant of a lock; and where a listed type isn't the class.
use Rattle.std.specs.Prelude.{ℕ, List, [], ◌++◌, codes, decimal, if◌then◌else◌, slice_get, Option, Some, None}
use Rattle.cov_expr.specs.Term.{Term}
use Rattle.cov_expr.specs.Trees.{same}
use Rattle.cov_ast.specs.Plain.{class_term, plain}
use Rattle.cov_ast.specs.Syntax.{Lock, Var, Program}
use Rattle.cov_print.specs.Spelling.{Names}
use Rattle.entail_origins.specs.TypeLines.{class_text}
use Rattle.entail_origins.specs.declared.kinds.Question.{Question}
use Rattle.entail_origins.specs.declared.kinds.Question.TheVariants as q
use Rattle.text_parts.specs.Lines.{line}
use Rattle.text_parts.specs.VariableNames.{variable_names}

-- the line of a place
abbrev pub line_end : (bytes : List ℕ) → (at : ℕ) → List ℕ
line_end bytes at = codes ", line " ++ (decimal (line bytes at) ++ codes "\n")

-- what it is, in front of its name and its line
abbrev pub declared_line : (bytes front name : List ℕ) → (at : ℕ) → List ℕ
declared_line bytes front name at = front ++ (name ++ line_end bytes at)

module _ (bytes : List ℕ) where
  abbrev pub class_of_line : Var → List ℕ
  class_of_line v = declared_line bytes (codes "  asked by:     the class of ") v.name v.at

  abbrev pub invariant_of_line : Lock → List ℕ
  invariant_of_line l = declared_line bytes (codes "  asked by:     the invariant of ") l.name l.at

  -- of a variable, if there is one
  abbrev pub class_line : Option Var → List ℕ
  class_line None = []
  class_line (Some v) = class_of_line v

  -- of a lock, if there is one
  abbrev pub invariant_line : Option Lock → List ℕ
  invariant_line None = []
  invariant_line (Some l) = invariant_of_line l

  -- the class of a variable, and the line of that
  abbrev pub class_in_line : Names → Program → (z at : ℕ) → List ℕ
  class_in_line names p z at = class_text (plain p) names z ++ line_end bytes at

  abbrev pub listed_end : Names → Program → (z at : ℕ) → List ℕ
  listed_end names p z at = codes ", which isn't " ++ class_in_line names p z at

  abbrev pub listed_name : Names → Program → (z : ℕ) → Var → List ℕ
  listed_name names p z v = v.name ++ listed_end names p z v.at

  -- that the type that is listed for a variable isn't its class
  abbrev pub listed_text : Program → (z : ℕ) → Var → List ℕ
  listed_text p z v = codes "  asked by:     the type listed for " ++ listed_name (variable_names p.vars) p z v

  -- of a variable, if there is one, for which this type is listed, if that isn't its class
  abbrev pub listed_line : Program → (z : ℕ) → Option Var → (asked : Option Term) → List ℕ
  listed_line p z (Some v) (Some q) = if same q (class_term v.class) then [] else listed_text p z v
  listed_line p z v q = []

  module _ (p : Program) (asked : Option Term) where
    -- A guard, what is printed, and a predicate that the statement itself states are asked by the statement, and so is a type that it lists for a variable, `asked`, of which is told where it isn't the class.
    abbrev pub asked_by : Question → List ℕ
    asked_by q.Written = []
    asked_by (q.Shown x) = class_line (slice_get p.vars x)
    asked_by (q.Controlled y) = class_line (slice_get p.vars y)
    asked_by (q.Retyped z) = []
    asked_by (q.Invariant l) = invariant_line (slice_get p.locks l)
    asked_by (q.Freed x) = class_line (slice_get p.vars x)
    asked_by q.Guard = []
    asked_by q.HeadGuard = []
    asked_by q.Printed = []
    asked_by (q.Predicate end i) = []
    asked_by (q.TypeOf end z) = listed_line p z (slice_get p.vars z) asked
