-- Behind V13: that nothing is asked of a store, since others may not read the variable, and what hides it. No store has no entailments but one to such a variable.
use Rattle.std.specs.Prelude.{ℕ, ◌==◌, List, [], ◌++◌, length, Bool, codes, if◌then◌else◌, Option, Some, None}
use Rattle.cov_ast.specs.Declarations.{name_of}
use Rattle.cov_ast.specs.Plain.{plain}
use Rattle.cov_ast.specs.Syntax.{Lock, Program, Stm}
use Rattle.cov_ast.specs.declared.refusal.Rule.{Rule}
use Rattle.cov_ast.specs.declared.refusal.Rule.TheVariants.{V13}
use Rattle.entail_origins.specs.LocksOver.{lock_over}
use Rattle.entail_origins.specs.Questions.{questions}
use Rattle.statement_parts.specs.Parts.{parts, Store}

-- a list, with the variable in it
abbrev pub hide_text : Program → (front : List ℕ) → (x : ℕ) → List ℕ
hide_text p front x = front ++ (name_of (plain p) x ++ codes "`\n")

-- the lock, or what the thread assumes
abbrev pub hider_text : Program → Option Lock → (x : ℕ) → List ℕ
hider_text p None x = hide_text p (codes ": the thread assumes `hide ") x
hider_text p (Some l) x = codes ": the lock " ++ (l.name ++ hide_text p (codes " has `hide ") x)

-- the name of a variable, and what hides it
abbrev pub hidden_name : Program → (x : ℕ) → List ℕ
hidden_name p x = name_of (plain p) x ++ hider_text p (lock_over x p.locks) x

abbrev pub line_on : Program → (x : ℕ) → List ℕ
line_on p x = codes "  nothing is asked of it, since others may not read " ++ hidden_name p x

abbrev pub line_of_store : Program → Option Store → List ℕ
line_of_store p None = []
line_of_store p (Some k) = line_on p k.variable

module _ (p : Program) (t : ℕ) where
  -- of a statement, by the locks that are held in front of it
  abbrev pub line_if_unasked : (held : List Bool) → Stm → List ℕ
  line_if_unasked held s = if length (questions (plain p) t held s) == 0 then line_of_store p (parts s).store else []

  abbrev pub unasked_line : Rule → (held : List Bool) → Stm → List ℕ
  unasked_line V13 held s = line_if_unasked held s
  unasked_line rule held s = []
