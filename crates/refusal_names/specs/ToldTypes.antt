-- V4: what its line tells of: a type that has a variable which is no control, or a control that isn't stable; or, of a value for which no type
-- is written, a variable whose class has such a control.
use Rattle.std.specs.Prelude.{◌≡◌, ◌⊎◌, ℕ, List, [], ◌∷◌, ◌++◌, Bool, true, false, IsTrue}
use Rattle.std.specs.List.{list_all}
use Rattle.cov_expr.specs.Term.{Term}
use Rattle.cov_expr.specs.Trees.{has_number, occurrences, vars}
use Rattle.cov_ast.specs.Declarations.{class_of, is_control}
use Rattle.cov_ast.specs.Plain.{plain}
use Rattle.cov_ast.specs.Syntax.{Program}
use Rattle.mode_state.specs.Sets.{is_stable}
use Rattle.point_law.specs.Point.{Point, controls_of, is_over_controls, is_tracked, ty_var, type_at}
use Rattle.text_parts.specs.VariableNames.{variable_names}
use Rattle.refusal_names.specs.NameLines.{class_text, type_text}
use Rattle.refusal_names.specs.UnstableVariables.{TellsWhyUnstable}

-- of a thread of a program that holds these locks
module _ (p : Program) (bytes : List ℕ) (t : ℕ) (held : List Bool) where
  -- a text tells why a variable isn't stable, which it isn't, and it is a control
  pub record IsOfUnstableControl (x : ℕ) (text : List ℕ) : Type 0 where
    pub control : is_control (plain p) x ≡ true
    pub unstable : is_stable (plain p) t held x ≡ false
    pub why : TellsWhyUnstable p bytes t held x text

  -- a text tells nothing of a variable, and it is no control
  pub record IsOfOther (x : ℕ) (text : List ℕ) : Type 0 where
    pub other : is_control (plain p) x ≡ false
    pub nothing : text ≡ []

  -- Of types a text tells of the first that isn't over stable controls, with a variable of it that isn't a control, or isn't stable, and why.
  pub record TellsOfType (types : List Term) (text : List ℕ) : Type 0 where
    pub before : List Term
    pub type : Term
    pub after : List Term
    pub is : types ≡ before ++ type ∷ after
    pub first : list_all (is_over_controls (plain p) t held) before ≡ true
    pub x : ℕ
    pub occurs : has_number (occurrences type) x ≡ true
    pub cause : List ℕ
    pub why : IsOfUnstableControl x cause ⊎ IsOfOther x cause
    pub told : text ≡ type_text (variable_names p.vars) (controls_of (plain p)) type x ++ cause

-- The types of variables that a point of a thread has are over stable controls, as the rules keep them.
abbrev pub AreTypesOverControls : Program → (t : ℕ) → Point → Type 0
AreTypesOverControls p t a = (y : ℕ) → IsTrue (is_tracked (plain p) t a.held y) → is_over_controls (plain p) t a.held (type_at a y) ≡ true

-- of a thread of a program at a point
module _ (p : Program) (bytes : List ℕ) (t : ℕ) (a : Point) where
  -- Of the value of an expression a text tells of the first variable whose type isn't over stable controls: that of one that is neither stable nor
  -- a control is its class, and that has a control which isn't stable, and the text tells why.
  pub record TellsOfClass (e : Term) (text : List ℕ) : Type 0 where
    pub before : List ℕ
    pub y : ℕ
    pub after : List ℕ
    pub is : vars e ≡ before ++ y ∷ after
    pub first : list_all (λ z. is_over_controls (plain p) t a.held (ty_var (plain p) t a z)) before ≡ true
    pub other : is_control (plain p) y ≡ false
    pub unstable : is_stable (plain p) t a.held y ≡ false
    pub c : ℕ
    pub occurs : has_number (occurrences (class_of (plain p) y)) c ≡ true
    pub cause : List ℕ
    pub why : IsOfUnstableControl p bytes t a.held c cause
    pub told : text ≡ class_text (variable_names p.vars) y c ++ cause
