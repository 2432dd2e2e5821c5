-- V16: what is too large, where the statement and the way to it show that.
--
-- Each expression of a text has at most 1,000 nodes. Larger is what the rules make of them: a class or a type with a value in the place of
-- a control, the equation of an assignment, the negation of a guard, and the type of a value, which is made of those of its variables.
use Rattle.std.specs.Prelude.{ℕ, suc, ◌&&◌, nat_lt, List, [], ◌∷◌, ◌++◌, Bool, not, Option, Some, None, codes, decimal, if◌then◌else◌}
use Rattle.std.specs.Option.{option_or}
use Rattle.cov_expr.specs.Term.{Term, var, neg, bin}
use Rattle.cov_expr.specs.Trees.{nodes, mentions, subst}
use Rattle.cov_expr.specs.declared.expr.Op.TheVariants.{Eq}
use Rattle.cov_expr.specs.declared.limits.TheConstants.{MOST_NODES}
use Rattle.statement_parts.specs.Parts.{left_guard, parts, Store}
use Rattle.cov_ast.specs.Plain.{class_term}
use Rattle.cov_ast.specs.Syntax.{State, Stm, Var}
use Rattle.cov_ast.specs.Tables.{has}
use Rattle.cov_print.specs.Spelling.{Names, name}
use Rattle.statement_paths.specs.Paths.{Step, passed, yes, no, head}
use Rattle.text_parts.specs.Lines.{line}

abbrev pub is_large : Term → Bool
is_large e = nat_lt MOST_NODES (nodes e)

-- Made by an assignment ----------------------------------------------------------------------------------------

-- whether an expression mentions a variable, and is too large with a value in its place
abbrev pub is_large_with : (x : ℕ) → (value : Term) → Term → Bool
is_large_with x value e = mentions e x && is_large (subst e x value)

-- The first variable, from a number on, whose class is so. Of a variable that no other thread may read nothing is asked.
abbrev pub large_class : (hidden : List Bool) → (x : ℕ) → (value : Term) → (y : ℕ) → List Var → Option ℕ
large_class hidden x value y [] = None
large_class hidden x value y (v ∷ vs) =
    if not (has hidden y) && is_large_with x value (class_term v.class) then Some y else large_class hidden x value (suc y) vs

-- the first variable that is given a type which is so
abbrev pub large_retype : (x : ℕ) → (value : Term) → List (ℕ × Term) → Option ℕ
large_retype x value [] = None
large_retype x value (r ∷ rs) = if is_large_with x value r.1 then Some r.0 else large_retype x value rs

abbrev pub with_value : Names → (x : ℕ) → List ℕ
with_value names x = codes ", with the value for " ++ name names x ++ codes ", has more than 1,000 nodes\n"

abbrev pub class_text : Names → (x y : ℕ) → List ℕ
class_text names x y = codes "  the class of " ++ name names y ++ with_value names x

abbrev pub retype_text : Names → (x y : ℕ) → List ℕ
retype_text names x y = codes "  the type by `retype` of " ++ name names y ++ with_value names x

-- the line of a class, or else of a type, or else another
abbrev pub assigned_or : Names → (x : ℕ) → (class retype : Option ℕ) → (later : List ℕ) → List ℕ
assigned_or names x (Some y) retype later = class_text names x y
assigned_or names x None (Some y) later = retype_text names x y
assigned_or names x None None later = later

-- Made by the steps to the statement ---------------------------------------------------------------------------

-- where the equation of an assignment, or the negation of a guard, is too large, its place with words for it
abbrev pub large_equation : (at x : ℕ) → Term → Option (ℕ × List ℕ)
large_equation at x e = if is_large (bin Eq (var x) e) then Some (at, codes "equation of the assignment") else None

abbrev pub large_negation : (at : ℕ) → Term → Option (ℕ × List ℕ)
large_negation at e = if is_large (neg e) then Some (at, codes "negation of the guard") else None

-- of what is stored, or of a guard that doesn't hold behind
abbrev pub made_where : (at : ℕ) → Option Store → (left : Option Term) → Option (ℕ × List ℕ)
made_where at (Some k) left = large_equation at k.variable k.value
made_where at None (Some e) = large_negation at e
made_where at None None = None

abbrev pub made_after_statement : (at : ℕ) → Stm → Option (ℕ × List ℕ)
made_after_statement at s = made_where at (parts s).store (left_guard (parts s).nested (parts s).guard)

-- what a step makes that is too large
abbrev pub made_by : Step → Option (ℕ × List ℕ)
made_by (passed at s) = made_after_statement at s
made_by (yes at e) = None
made_by (no at e) = large_negation at e
made_by (head at inv) = None

-- the last that steps make
abbrev pub last_made : List Step → Option (ℕ × List ℕ)
last_made [] = None
last_made (s ∷ ss) = option_or (last_made ss) (made_by s)

-- its line in the text of the program; where there is none, another
abbrev pub made_or : (bytes : List ℕ) → Option (ℕ × List ℕ) → (later : List ℕ) → List ℕ
made_or bytes None later = later
made_or bytes (Some m) later = codes "  the " ++ m.1 ++ codes " in line " ++ decimal (line bytes m.0) ++ codes " has more than 1,000 nodes\n"

-- The line -----------------------------------------------------------------------------------------------------

abbrev pub value_text : List ℕ
value_text = codes "  the type of the value, by those of its variables, has more than 1,000 nodes\n"

-- what is made on the way, where something is put out, stated or given back, so that an entailment is asked for
abbrev pub made_where_asked : (bytes : List ℕ) → Option (ℕ × List ℕ) → (printed : Option Term) → Option State → (returned : Option ℕ) → List ℕ
made_where_asked bytes made (Some e) j l = made_or bytes made value_text
made_where_asked bytes made None (Some j) l = made_or bytes made []
made_where_asked bytes made None None (Some l) = made_or bytes made []
made_where_asked bytes made None None None = []

-- of what is stored, where something is; else another
abbrev pub stored_or : List Var → Names → (bytes : List ℕ) → (hidden : List Bool) → Option (ℕ × List ℕ) → Option Store → (later : List ℕ) → List ℕ
stored_or vars names bytes hidden made None later = later
stored_or vars names bytes hidden made (Some k) later =
    assigned_or names k.variable (large_class hidden k.variable k.value 0 vars) (large_retype k.variable k.value k.retypes) (made_or bytes made value_text)

-- Of a statement, behind steps. A statement that has a value and nothing else that is too large can only have too large a type of it; of other
-- statements nothing is said then.
abbrev pub large_line : List Var → Names → (bytes : List ℕ) → (hidden : List Bool) → List Step → Stm → List ℕ
large_line vars names bytes hidden steps s =
    stored_or vars names bytes hidden (last_made steps) (parts s).store (made_where_asked bytes (last_made steps) (parts s).printed (parts s).state (parts s).returned)
