-- What could be noted in front of the last step, where that is a store, for a predicate to be known behind it: what the predicate is there, by the value that is stored, where that is shown and is over stable variables.
use Rattle.std.specs.Prelude.{ℕ, ◌-◌, List, [], ◌++◌, Bool, true, false, not, ◌&&◌, nat_le, length, take, slice_get, codes, decimal, is_none, if◌then◌else◌, Option, Some, None}
use Rattle.cov_expr.specs.Term.{Term}
use Rattle.cov_expr.specs.Trees.{mentions, nodes, occurrences, subst}
use Rattle.cov_ast.specs.Plain.{Plain}
use Rattle.cov_ast.specs.Tables.{first_outside}
use Rattle.cov_print.specs.Spelling.{whole}
use Rattle.entail_origins.specs.declared.kinds.Question.{Question}
use Rattle.entail_origins.specs.declared.kinds.Question.TheVariants as q
use Rattle.entail_text.specs.Findings as findings
use Rattle.point_law.specs.Point.{Point}
use Rattle.statement_parts.specs.Parts.{parts, Store}
use Rattle.statement_paths.specs.Paths.{Step, passed, yes, no, head}
use Rattle.statement_paths.specs.VariableSets.{stable_after_steps}
use Rattle.text_parts.specs.Lines.{line}
use Rattle.text_parts.specs.VariableNames.{variable_names}
use Rattle.typing_points.specs.PointsBehind.{point_behind}
use Rattle.entail_refused.specs.Sites.{Site}

-- whether what is asked is that a predicate holds
abbrev pub is_predicate : Question → Bool
is_predicate (q.Invariant l) = true
is_predicate (q.Predicate end i) = true
is_predicate question = false

-- Whether a store of a value to a variable makes another predicate of one, with few nodes. Since the value doesn't mention the variable, the store doesn't forget the other.
abbrev pub is_moved : (x : ℕ) → (value goal : Term) → Bool
is_moved x value goal = mentions goal x && not (mentions value x) && nat_le (nodes (subst goal x value)) 1000

-- whether a certificate is found for a predicate at a point, if that is there
abbrev pub is_shown_at : Point → Term → Bool
is_shown_at a e = findings.is_shown (findings.found_for a.preds e)

abbrev pub is_shown : Option Point → Term → Bool
is_shown None e = false
is_shown (Some a) e = is_shown_at a e

-- of a predicate, in front of the store at a place
abbrev pub line_end : (bytes : List ℕ) → (at : ℕ) → List ℕ
line_end bytes at = codes "` in front of the store in line " ++ (decimal (line bytes at) ++ codes ": it can be shown there, and behind the store it is the goal\n")

abbrev pub line_of : Plain → (bytes : List ℕ) → (at : ℕ) → Term → List ℕ
line_of p bytes at e = codes "  to be noted:  `" ++ (whole (variable_names p.vars) e ++ line_end bytes at)

module _ (p : Plain) (t : ℕ) (bytes : List ℕ) where
  -- whether no other thread writes a variable of an expression behind steps
  abbrev pub is_stable : (front : List Step) → Term → Bool
  is_stable front e = is_none (first_outside (stable_after_steps p t front) (occurrences e))

  -- if it is so, and the predicate is shown there
  abbrev pub line_if_shown : (front : List Step) → (at : ℕ) → Term → List ℕ
  line_if_shown front at e = if is_stable front e && is_shown (point_behind p t front) e then line_of p bytes at e else []

  -- of a goal behind the store of a value, which is behind these steps
  abbrev pub line_if_moved : (front : List Step) → (at x : ℕ) → (value goal : Term) → List ℕ
  line_if_moved front at x value goal = if is_moved x value goal then line_if_shown front at (subst goal x value) else []

  abbrev pub line_by_store : (front : List Step) → (at : ℕ) → Option Store → (goal : Term) → List ℕ
  line_by_store front at None goal = []
  line_by_store front at (Some k) goal = line_if_moved front at k.variable k.value goal

  abbrev pub line_by_step : (front : List Step) → Option Step → (goal : Term) → List ℕ
  line_by_step front None goal = []
  line_by_step front (Some (passed at s)) goal = line_by_store front at (parts s).store goal
  line_by_step front (Some (yes at e)) goal = []
  line_by_step front (Some (no at e)) goal = []
  line_by_step front (Some (head at inv)) goal = []

  -- of a goal behind steps
  abbrev pub line_behind : List Step → (goal : Term) → List ℕ
  line_behind steps goal = let count = length steps - 1 in line_by_step (take count steps) (slice_get steps count) goal

  abbrev pub noted_line : Site → (goal : Term) → List ℕ
  noted_line s goal = if is_predicate s.question then line_behind s.steps goal else []
