-- What is known at a point, as lines of text: the locks that the thread holds, what holds, with where each predicate comes from, and the types of
-- variables that aren't their classes. Expressions are spelled canonically.
use Rattle.std.specs.Prelude.{ℕ, ◌+◌, List, [], ◌∷◌, ◌++◌, Bool, false, codes, get_or, if◌then◌else◌, Option, Some, None}
use Rattle.cov_expr.specs.Term.{Term}
use Rattle.cov_expr.specs.Trees.{same}
use Rattle.cov_ast.specs.Plain.{Plain, class_term}
use Rattle.cov_ast.specs.Syntax.{Lock, Var}
use Rattle.cov_print.specs.Spelling.{Names, whole}
use Rattle.entail_origins.specs.Remarks.{remarks}
use Rattle.entail_text.specs.EntailmentLines.{hypothesis_lines}
use Rattle.point_law.specs.Point.{Point}
use Rattle.refusal_names.specs.NameLines.{held_text}
use Rattle.statement_paths.specs.Paths.{Step}
use Rattle.typing_points.specs.PointsBehind.{point_behind}

-- the names of the locks that are held
abbrev pub held_line : List Lock → (held : List Bool) → List ℕ
held_line locks held = codes "  held:         " ++ held_text locks held ++ codes "\n"

-- a type of a variable
abbrev pub typed : Names → (name : List ℕ) → Term → List ℕ
typed names name q = codes "  type of " ++ name ++ codes ":  " ++ whole names q ++ codes "\n"

-- the type of a variable, if it has one that isn't its class
abbrev pub type_line : Names → Var → Option Term → List ℕ
type_line names v None = []
type_line names v (Some q) = if same q (class_term v.class) then [] else typed names v.name q

-- those of variables, of which the first has this number
abbrev pub type_lines : Names → (types : List (Option Term)) → (x : ℕ) → List Var → List ℕ
type_lines names types x [] = []
type_lines names types x (v ∷ vs) = type_line names v (get_or types x None) ++ type_lines names types (x + 1) vs

-- what holds, each with where it comes from by these steps
abbrev pub predicate_lines : Plain → Names → (bytes : List ℕ) → List Step → (preds : List Term) → List ℕ
predicate_lines p names bytes steps preds = hypothesis_lines names (remarks p bytes steps false preds) preds

-- what is known at a point to which these steps lead
abbrev pub known_lines : Plain → Names → (bytes : List ℕ) → List Step → Point → List ℕ
known_lines p names bytes steps a =
    held_line p.locks a.held ++ predicate_lines p names bytes steps a.preds ++ type_lines names a.types 0 p.vars

-- the same of a point that is there
abbrev pub any_known : Plain → Names → (bytes : List ℕ) → List Step → Option Point → List ℕ
any_known p names bytes steps None = codes "  nothing is told here: a type on the way has more nodes than V16 lets it have\n"
any_known p names bytes steps (Some a) = known_lines p names bytes steps a

-- what is known behind steps from the start of a thread
abbrev pub known_behind : Plain → (t : ℕ) → Names → (bytes : List ℕ) → List Step → List ℕ
known_behind p t names bytes steps = any_known p names bytes steps (point_behind p t steps)
