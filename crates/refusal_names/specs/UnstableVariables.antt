-- V3, V4, V5, V12 and V14: why a variable isn't stable at a place of a thread: the lock that it is under isn't held there, or it is under none and
-- the thread doesn't assume that it isn't written.
use Rattle.std.specs.Prelude.{◌≡◌, ◌⊎◌, ◌<◌, ℕ, List, [], ◌++◌, Bool, true, false, length, codes, Option, Some, None}
use Rattle.cov_ast.specs.Declarations.{assumes, under}
use Rattle.cov_ast.specs.NameTables.{find_name}
use Rattle.cov_ast.specs.Plain.{plain}
use Rattle.cov_ast.specs.Syntax.{Lock, Program}
use Rattle.cov_ast.specs.declared.refusal.Detail.{Detail}
use Rattle.cov_ast.specs.declared.refusal.Detail.TheVariants.{One}
use Rattle.cov_print.specs.Spelling.{Names, name}
use Rattle.text_parts.specs.VariableNames.{variable_names}
use Rattle.refusal_names.specs.ForbiddenAccess.{first_forbidding, list_text, lock_text, IsOfLock}
use Rattle.refusal_names.specs.NameLines.{held_text}

-- of a variable that is under no lock
abbrev pub assumption_text : Names → (x : ℕ) → List ℕ
assumption_text names x =
    codes "  " ++ name names x ++ list_text names (codes " is under no lock, and the thread doesn't assume `") (codes "nowrite") x (codes "`\n")

-- of the lock, if there is one
abbrev pub lock_or_assumption : Names → (bytes : List ℕ) → Option (Lock × List ℕ) → (x : ℕ) → (held : List ℕ) → List ℕ
lock_or_assumption names bytes None x held = assumption_text names x
lock_or_assumption names bytes (Some k) x held = lock_text names bytes k.0 k.1 x held

-- by the locks that are held: of the first lock that isn't, and that the variable is under
abbrev pub unstable_line : Names → (bytes : List ℕ) → List Lock → (held : List Bool) → (x : ℕ) → List ℕ
unstable_line names bytes locks held x = lock_or_assumption names bytes (first_forbidding held true x 0 locks) x (held_text locks held)

-- of a variable of the value for a control: where it is under no lock, also what is mostly done
abbrev pub copy_text : List ℕ
copy_text = codes "  assign a constant in each branch of a test of it, or a copy of it in a variable of which the thread assumes `nowrite`\n"

abbrev pub lock_or_copy : Names → (bytes : List ℕ) → Option (Lock × List ℕ) → (x : ℕ) → (held : List ℕ) → List ℕ
lock_or_copy names bytes None x held = assumption_text names x ++ copy_text
lock_or_copy names bytes (Some k) x held = lock_text names bytes k.0 k.1 x held

abbrev pub unstable_part_line : Names → (bytes : List ℕ) → List Lock → (held : List Bool) → (x : ℕ) → List ℕ
unstable_part_line names bytes locks held x = lock_or_copy names bytes (first_forbidding held true x 0 locks) x (held_text locks held)

-- of a variable, if there is one, by what is told of each
abbrev pub cause_of_any : (cause : ℕ → List ℕ) → Option ℕ → List ℕ
cause_of_any cause None = []
cause_of_any cause (Some x) = cause x

-- of the variable that a refusal shows
abbrev pub shown_cause : Names → (cause : ℕ → List ℕ) → Detail → List ℕ
shown_cause names cause (One shown) = cause_of_any cause (find_name names shown)
shown_cause names cause detail = []

-- What it tells of ---------------------------------------------------------------------------------------------

-- of a thread of a program that holds these locks, and a variable
module _ (p : Program) (bytes : List ℕ) (t : ℕ) (held : List Bool) (x : ℕ) where
  -- a text tells that no lock has the variable in a list and that the thread assumes nothing of it, where this is so
  pub record IsOfNone (text : List ℕ) : Type 0 where
    pub free : (l : ℕ) → l < length p.locks → under (plain p) l x ≡ false
    pub unassumed : assumes (plain p) t x ≡ false
    pub told : text ≡ assumption_text (variable_names p.vars) x

  -- the same, or of a lock that has it in a list and isn't held
  abbrev pub TellsWhyUnstable : (text : List ℕ) → Type 0
  TellsWhyUnstable text = IsOfLock p bytes t held true x text ⊎ IsOfNone text

  -- of a lock likewise; or that there is none, with what is mostly done behind that
  abbrev pub TellsOfPart : (text : List ℕ) → Type 0
  TellsOfPart text = IsOfLock p bytes t held true x text ⊎ ((why : List ℕ) × IsOfNone why × (text ≡ why ++ copy_text))
