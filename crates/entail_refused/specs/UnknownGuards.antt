-- The guards around the place where something is asked that give no predicate: a variable of theirs isn't stable where they are looked at; and why it isn't.
use Rattle.std.specs.Prelude.{ℕ, List, [], ◌∷◌, ◌++◌, Bool, codes, decimal, Option, Some, None}
use Rattle.cov_expr.specs.Term.{Term, neg}
use Rattle.cov_expr.specs.Trees.{occurrences}
use Rattle.cov_ast.specs.Declarations.{name_of}
use Rattle.cov_ast.specs.LocksAlong.{no_locks}
use Rattle.cov_ast.specs.Plain.{Plain}
use Rattle.cov_ast.specs.Syntax.{Lock}
use Rattle.cov_ast.specs.Tables.{first_outside}
use Rattle.cov_print.specs.Spelling.{whole}
use Rattle.entail_origins.specs.LocksOver.{lock_over}
use Rattle.statement_paths.specs.LocksHeld.{held_after}
use Rattle.statement_paths.specs.Paths.{Step, passed, yes, no, head}
use Rattle.statement_paths.specs.VariableSets as sets
use Rattle.text_parts.specs.Lines.{line}
use Rattle.text_parts.specs.VariableNames.{variable_names}
use Rattle.entail_refused.specs.Sites.{Site}

-- what a guard would give
abbrev pub front_of : Plain → Term → List ℕ
front_of p e = codes "  not known:    " ++ whole (variable_names p.vars) e

abbrev pub place_of : (bytes : List ℕ) → (at : ℕ) → List ℕ
place_of bytes at = codes "   (guard, line " ++ decimal (line bytes at)

-- why a variable isn't stable: the first lock that lists it isn't held, or none does, and the thread assumes nothing of it
abbrev pub lock_end : Lock → List ℕ
lock_end l = codes ": the lock " ++ (l.name ++ codes " isn't held)\n")

abbrev pub unstable_end : Option Lock → List ℕ
unstable_end None = codes ": it is under no lock, and the thread assumes nothing of it)\n"
unstable_end (Some l) = lock_end l

abbrev pub cause_of : Plain → (y : ℕ) → List ℕ
cause_of p y = codes ": " ++ (name_of p y ++ (codes " isn't stable there" ++ unstable_end (lock_over y p.locks)))

-- that, where this variable of the guard isn't stable
abbrev pub line_if_outside : Plain → (bytes : List ℕ) → Option ℕ → (at : ℕ) → Term → List ℕ
line_if_outside p bytes None at e = []
line_if_outside p bytes (Some y) at e = front_of p e ++ (place_of bytes at ++ cause_of p y)

-- of a step, where these variables are stable
abbrev pub line_of_step : Plain → (bytes : List ℕ) → (stable : List Bool) → Step → List ℕ
line_of_step p bytes stable (passed at s) = []
line_of_step p bytes stable (yes at e) = line_if_outside p bytes (first_outside stable (occurrences e)) at e
line_of_step p bytes stable (no at e) = line_if_outside p bytes (first_outside stable (occurrences e)) at (neg e)
line_of_step p bytes stable (head at inv) = []

module _ (p : Plain) (t : ℕ) (bytes : List ℕ) where
  -- of steps, in front of which these locks are held
  abbrev pub lines_along : (held : List Bool) → List Step → List ℕ
  lines_along held [] = []
  lines_along held (s ∷ ss) = line_of_step p bytes (sets.stable p t (held_after s held)) s ++ lines_along (held_after s held) ss

  -- where it is known where something is asked
  abbrev pub guard_lines : Option Site → List ℕ
  guard_lines None = []
  guard_lines (Some s) = lines_along (no_locks p) s.steps
