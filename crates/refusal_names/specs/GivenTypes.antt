-- V14: why a variable may not be given a type at a place: it is a control, or isn't stable there, or has been given one; or a `retype` stands
-- where no control is assigned.
use Rattle.std.specs.Prelude.{◌≡◌, ◌⊎◌, ℕ, List, [], ◌++◌, Bool, true, false, codes, Option, Some, None, if◌then◌else◌}
use Rattle.cov_expr.specs.Trees.{has_number}
use Rattle.cov_ast.specs.Declarations.{is_control}
use Rattle.cov_ast.specs.NameTables.{find_name}
use Rattle.statement_parts.specs.Parts.{parts, Store}
use Rattle.cov_ast.specs.Plain.{plain}
use Rattle.cov_ast.specs.Syntax.{Program, State, Stm}
use Rattle.cov_ast.specs.Tables.{has}
use Rattle.cov_ast.specs.declared.refusal.Detail.{Detail}
use Rattle.cov_ast.specs.declared.refusal.Detail.TheVariants.{One}
use Rattle.cov_print.specs.Spelling.{Names, name}
use Rattle.text_parts.specs.VariableNames.{variable_names}
use Rattle.mode_state.specs.Sets.{is_stable}
use Rattle.refusal_names.specs.UnstableVariables.{TellsWhyUnstable}

-- a variable, with words behind
abbrev pub variable_text : Names → (x : ℕ) → (words : List ℕ) → List ℕ
variable_text names x words = codes "  " ++ name names x ++ words

abbrev pub control_text : Names → (z : ℕ) → List ℕ
control_text names z = variable_text names z (codes " is a control, and has no type\n")

abbrev pub listed_text : Names → (z : ℕ) → List ℕ
listed_text names z = variable_text names z (codes " is listed twice\n")

abbrev pub assigned_text : Names → (x : ℕ) → List ℕ
assigned_text names x = variable_text names x (codes ", which is assigned, is no control: no `retype` may stand here\n")

abbrev pub unstable_text : Names → (z : ℕ) → List ℕ
unstable_text names z = variable_text names z (codes " isn't stable here, and has no type\n")

-- with why it isn't
abbrev pub untracked_text : Names → (cause : ℕ → List ℕ) → (z : ℕ) → List ℕ
untracked_text names cause z = unstable_text names z ++ cause z

-- of a variable that isn't a control, and of any
abbrev pub stable_line : Names → (cause : ℕ → List ℕ) → (stable : List Bool) → (z : ℕ) → List ℕ
stable_line names cause stable z = if has stable z then listed_text names z else untracked_text names cause z

abbrev pub type_line : Names → (cause : ℕ → List ℕ) → (stable controls : List Bool) → (z : ℕ) → List ℕ
type_line names cause stable controls z = if has controls z then control_text names z else stable_line names cause stable z

-- where a variable is assigned
abbrev pub retype_line : Names → (cause : ℕ → List ℕ) → (stable controls : List Bool) → (x z : ℕ) → List ℕ
retype_line names cause stable controls x z = if has controls x then type_line names cause stable controls z else assigned_text names x

-- where a statement stores, and where it states types
abbrev pub given_where : Names → (cause : ℕ → List ℕ) → (stable controls : List Bool) → Option Store → Option State → (z : ℕ) → List ℕ
given_where names cause stable controls (Some k) j z = retype_line names cause stable controls k.variable z
given_where names cause stable controls None (Some j) z = type_line names cause stable controls z
given_where names cause stable controls None None z = []

-- of a statement that gives types
abbrev pub given_line : Names → (cause : ℕ → List ℕ) → (stable controls : List Bool) → Stm → (z : ℕ) → List ℕ
given_line names cause stable controls s z = given_where names cause stable controls (parts s).store (parts s).state z

-- of a variable by its name, if there is one
abbrev pub line_of_any : Names → (cause : ℕ → List ℕ) → (stable controls : List Bool) → Stm → Option ℕ → List ℕ
line_of_any names cause stable controls s None = []
line_of_any names cause stable controls s (Some z) = given_line names cause stable controls s z

-- the same of what a refusal shows
abbrev pub shown_line : Names → (cause : ℕ → List ℕ) → (stable controls : List Bool) → Stm → Detail → List ℕ
shown_line names cause stable controls s (One shown) = line_of_any names cause stable controls s (find_name names shown)
shown_line names cause stable controls s detail = []

-- What it tells of ---------------------------------------------------------------------------------------------

-- of a thread of a program that holds these locks, and a variable, before which types are given to others
module _ (p : Program) (bytes : List ℕ) (t : ℕ) (held : List Bool) (before : List ℕ) (z : ℕ) where
  -- a text tells of a control, which it is
  pub record IsOfControl (text : List ℕ) : Type 0 where
    pub control : is_control (plain p) z ≡ true
    pub told : text ≡ control_text (variable_names p.vars) z

  -- a text tells of a variable that isn't stable, which it isn't, and why
  pub record IsOfUnstable (text : List ℕ) : Type 0 where
    pub unstable : is_stable (plain p) t held z ≡ false
    pub cause : List ℕ
    pub why : TellsWhyUnstable p bytes t held z cause
    pub told : text ≡ unstable_text (variable_names p.vars) z ++ cause

  -- a text tells of a variable that is listed twice, and it is listed before
  pub record IsOfListed (text : List ℕ) : Type 0 where
    pub listed : has_number before z ≡ true
    pub told : text ≡ listed_text (variable_names p.vars) z

  abbrev pub TellsWhyUntyped : (text : List ℕ) → Type 0
  TellsWhyUntyped text = IsOfControl text ⊎ (IsOfUnstable text ⊎ IsOfListed text)

-- of a variable of a program that is assigned: a text tells that it is no control, which it isn't
pub record IsOfAssigned (p : Program) (x : ℕ) (text : List ℕ) : Type 0 where
  pub other : is_control (plain p) x ≡ false
  pub told : text ≡ assigned_text (variable_names p.vars) x
