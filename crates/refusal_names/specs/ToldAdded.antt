-- V15: what its line tells of: what a statement adds to predicates that are as many as there may be.
use Rattle.std.specs.Prelude.{◌≡◌, ◌⊎◌, ℕ, List, true, false, not, length, filter, Some}
use Rattle.cov_expr.specs.declared.expr.Op.TheVariants.{Eq}
use Rattle.cov_expr.specs.declared.limits.TheConstants.{MOST_PREDICATES}
use Rattle.cov_expr.specs.Term.{Term, var, neg, bin}
use Rattle.cov_expr.specs.Trees.{has_term, mentions}
use Rattle.cov_ast.specs.Declarations.{lock_at}
use Rattle.cov_ast.specs.Plain.{plain}
use Rattle.cov_ast.specs.Syntax.{Program}
use Rattle.point_law.specs.After.{keeps_value}
use Rattle.point_law.specs.Point.{is_over_stable, Point}
use Rattle.text_parts.specs.VariableNames.{variable_names}
use Rattle.refusal_names.specs.NameLines.{equation_line, guard_line, invariant_line}

-- Predicates are as many as there may be, and an expression isn't among them.
pub record IsOneTooMany (preds : List Term) (e : Term) : Type 0 where
  pub full : length preds ≡ MOST_PREDICATES
  pub new : has_term preds e ≡ false

-- of a thread of a program at a point
module _ (p : Program) (t : ℕ) (a : Point) where
  -- Of an assignment a text tells of its equation, which holds from then on and is one too many for the predicates that aren't forgotten.
  pub record IsOfEquation (x : ℕ) (e : Term) (text : List ℕ) : Type 0 where
    pub kept : keeps_value (plain p) t a.held x e ≡ true
    pub many : IsOneTooMany (filter (λ r. not (mentions r x)) a.preds) (bin Eq (var x) e)
    pub told : text ≡ equation_line (variable_names p.vars) x e

  -- Of a lock that is taken a text tells of its invariant, which is one too many.
  pub record IsOfInvariant (l : ℕ) (text : List ℕ) : Type 0 where
    pub invariant : Term
    pub is : (lock_at (plain p) l).inv ≡ Some invariant
    pub many : IsOneTooMany a.preds invariant
    pub told : text ≡ invariant_line (variable_names p.vars) (lock_at (plain p) l).name (Some invariant)

  -- Of a branch, or of a loop at its head, a text tells of its guard, which is over stable variables, and of which it or its negation is one too many.
  pub record IsOfGuard (e : Term) (text : List ℕ) : Type 0 where
    pub stable : is_over_stable (plain p) t a.held e ≡ true
    pub many : IsOneTooMany a.preds e ⊎ IsOneTooMany a.preds (neg e)
    pub told : text ≡ guard_line (variable_names p.vars) e
