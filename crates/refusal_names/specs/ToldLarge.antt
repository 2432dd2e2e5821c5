-- V16: what its line tells of: what has too many nodes at an assignment or an output.
use Rattle.std.specs.Prelude.{◌≡◌, ◌⊎◌, ◌<◌, ℕ, Bool, List, [], ◌∷◌, ◌++◌, true, false, length, Some, None}
use Rattle.std.specs.List.{list_all}
use Rattle.cov_expr.specs.Term.{Term}
use Rattle.cov_expr.specs.Trees.{mentions, subst}
use Rattle.cov_ast.specs.Declarations.{class_of, is_control}
use Rattle.cov_ast.specs.Plain.{plain}
use Rattle.cov_ast.specs.Syntax.{Program}
use Rattle.mode_state.specs.Sets.{is_hidden}
use Rattle.point_law.specs.Point.{has_small_types, ty, Point}
use Rattle.point_law.specs.Terms.{is_small}
use Rattle.statement_paths.specs.Paths.{head, no, passed, yes, Step}
use Rattle.text_parts.specs.VariableNames.{variable_names}
use Rattle.refusal_names.specs.SpokenParts.{stated_predicates}
use Rattle.refusal_names.specs.LargeTerms.{class_text, last_made, made_by, made_or, retype_text, value_text}

-- The predicates that a step has as they are written are small; what it makes of others is no matter here.
abbrev pub is_given_small : Step → Bool
is_given_small (passed at s) = list_all is_small (stated_predicates s)
is_given_small (yes at e) = is_small e
is_given_small (no at e) = true
is_given_small (head at inv) = list_all is_small inv.preds

-- At a point of a program behind steps nothing is too large but what the steps make: the classes and the types are small, and the predicates where
-- no step makes one that isn't.
pub record IsSmallSoFar (p : Program) (steps : List Step) (a : Point) : Type 0 where
  pub classes : (y : ℕ) → is_small (class_of (plain p) y) ≡ true
  pub types : has_small_types a ≡ true
  pub preds : last_made steps ≡ None → list_all is_small a.preds ≡ true

-- A text tells of the last of steps that makes something too large, an equation or a negation, and of its line.
pub record IsOfMade (bytes : List ℕ) (steps : List Step) (text : List ℕ) : Type 0 where
  pub front : List Step
  pub step : Step
  pub back : List Step
  pub is : steps ≡ front ++ step ∷ back
  pub made : ℕ × List ℕ
  pub makes : made_by step ≡ Some made
  pub last : last_made back ≡ None
  pub told : text ≡ made_or bytes (Some made) []

-- of a thread of a program at a point, and an expression
module _ (p : Program) (t : ℕ) (a : Point) (e : Term) where
  -- a text tells of the type of the value, which is too large
  pub record IsOfValue (text : List ℕ) : Type 0 where
    pub large : is_small (ty (plain p) t a e) ≡ false
    pub told : text ≡ value_text

  -- of an assignment to a variable
  module _ (x : ℕ) where
    -- A text tells of a class that mentions the variable, a control, and is too large with the value in its place; no hidden variable has it, so that
    -- an entailment of the assignment has it so as a hypothesis.
    pub record IsOfClass (text : List ℕ) : Type 0 where
      pub y : ℕ
      pub declared : y < length p.vars
      pub shown : is_hidden (plain p) t a.held y ≡ false
      pub control : is_control (plain p) x ≡ true
      pub mentioned : mentions (class_of (plain p) y) x ≡ true
      pub large : is_small (subst (class_of (plain p) y) x e) ≡ false
      pub told : text ≡ class_text (variable_names p.vars) x y

    -- A text tells of a type by `retype` that is too large with the value in the place of the variable, as a hypothesis has it.
    pub record IsOfRetype (retypes : List (ℕ × Term)) (text : List ℕ) : Type 0 where
      pub before : List (ℕ × Term)
      pub r : ℕ × Term
      pub after : List (ℕ × Term)
      pub is : retypes ≡ before ++ r ∷ after
      pub large : is_small (subst r.1 x e) ≡ false
      pub told : text ≡ retype_text (variable_names p.vars) x r.0

    abbrev pub TellsOfLarge : (bytes : List ℕ) → (steps : List Step) → (retypes : List (ℕ × Term)) → (text : List ℕ) → Type 0
    TellsOfLarge bytes steps retypes text = IsOfClass text ⊎ (IsOfRetype retypes text ⊎ (IsOfMade bytes steps text ⊎ IsOfValue text))
