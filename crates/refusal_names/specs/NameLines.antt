-- What a rule that is broken is about, by name: a line of text for each of the rules V3, V4, V8, V12 and V15, and of V3, V4 and V12 why the
-- variables in it aren't stable (`cause`), and of V8 what changes the locks, in lines of their own. Expressions are spelled canonically.
use Rattle.std.specs.Prelude.{ℕ, suc, ◌==◌, List, [], ◌∷◌, ◌++◌, Bool, true, Option, Some, None, codes, flat_map, if◌then◌else◌}
use Rattle.cov_expr.specs.Term.{Term}
use Rattle.cov_expr.specs.Trees.{occurrences, vars}
use Rattle.cov_ast.specs.Declarations.{lock_at}
use Rattle.statement_parts.specs.Parts.{either, Nested, none, parts, Store, turn}
use Rattle.cov_ast.specs.Plain.{Plain}
use Rattle.cov_ast.specs.Syntax.{Block, Lock, Stm}
use Rattle.cov_ast.specs.Tables.{has}
use Rattle.cov_print.specs.Spelling.{Names, name, whole, expr}
use Rattle.statement_paths.specs.LocksHeld.{held_at_end}
use Rattle.refusal_names.specs.LockChanges.{changes}
use Rattle.refusal_names.specs.OutsideVariables.{all_outside, first_with_outside, first_unstable_class}
use Rattle.refusal_names.specs.SpokenParts.{stated_predicates, stated_types, untyped_value}

-- V3: two reads of variables that aren't stable ----------------------------------------------------------------

abbrev pub two_reads : Names → (x y : ℕ) → List ℕ
two_reads names x y = codes "  not stable here: " ++ name names x ++ codes ", " ++ name names y ++ codes "\n"

-- of another variable than the first
abbrev pub other_cause : (cause : ℕ → List ℕ) → (x y : ℕ) → List ℕ
other_cause cause x y = if x == y then [] else cause y

abbrev pub two_with_causes : Names → (cause : ℕ → List ℕ) → (x y : ℕ) → List ℕ
two_with_causes names cause x y = two_reads names x y ++ (cause x ++ other_cause cause x y)

-- the first two of the occurrences that aren't stable, if there are two
abbrev pub read_line : Names → (cause : ℕ → List ℕ) → List ℕ → List ℕ
read_line names cause [] = []
read_line names cause (x ∷ []) = []
read_line names cause (x ∷ y ∷ rest) = two_with_causes names cause x y

abbrev pub reads_line : Names → (cause : ℕ → List ℕ) → (stable : List Bool) → Option Term → List ℕ
reads_line names cause stable None = []
reads_line names cause stable (Some e) = read_line names cause (all_outside stable (occurrences e))

-- V12: a predicate that isn't over stable variables ------------------------------------------------------------

abbrev pub predicate_text : Names → Term → (x : ℕ) → List ℕ
predicate_text names e x =
    codes "  the predicate `" ++ whole names e ++ codes "` has the variable " ++ name names x ++ codes ", which isn't stable here\n"

abbrev pub predicate_line : Names → (cause : ℕ → List ℕ) → Option (Term × ℕ) → List ℕ
predicate_line names cause None = []
predicate_line names cause (Some (e, x)) = predicate_text names e x ++ cause x

abbrev pub predicates_line : Names → (cause : ℕ → List ℕ) → (stable : List Bool) → Stm → List ℕ
predicates_line names cause stable s = predicate_line names cause (first_with_outside stable (stated_predicates s))

-- V4: a type that isn't over stable controls -------------------------------------------------------------------

-- what a variable is, and why it may not be there
abbrev pub part_word : (is_control : Bool) → List ℕ
part_word is_control = if is_control then codes "control " else codes "variable "

abbrev pub part_fault : (is_control : Bool) → List ℕ
part_fault is_control = if is_control then codes ", which isn't stable here\n" else codes ", which is no control: no class mentions it\n"

abbrev pub type_text : Names → (controls : List Bool) → Term → (x : ℕ) → List ℕ
type_text names controls q x =
    codes "  the type `" ++ whole names q ++ codes "` has the " ++ part_word (has controls x) ++ name names x ++ part_fault (has controls x)

-- of a control; another variable needn't be stable
abbrev pub control_cause : (cause : ℕ → List ℕ) → (is_control : Bool) → (x : ℕ) → List ℕ
control_cause cause is_control x = if is_control then cause x else []

abbrev pub type_line : Names → (cause : ℕ → List ℕ) → (controls : List Bool) → Option (Term × ℕ) → List ℕ
type_line names cause controls None = []
type_line names cause controls (Some (q, x)) = type_text names controls q x ++ control_cause cause (has controls x) x

-- a variable that is read, with a control of its class
abbrev pub class_text : Names → (y c : ℕ) → List ℕ
class_text names y c =
    codes "  no type is written by `as`, and the class of " ++ name names y ++ codes " has the control " ++ name names c ++ codes ", which isn't stable here\n"

abbrev pub class_line : Names → (cause : ℕ → List ℕ) → (y c : ℕ) → List ℕ
class_line names cause y c = class_text names y c ++ cause c

-- where no type is written, such a variable; else a type
abbrev pub class_or_type_line : Names → (cause : ℕ → List ℕ) → Option (ℕ × ℕ) → (type : List ℕ) → List ℕ
class_or_type_line names cause None type = type
class_or_type_line names cause (Some (y, c)) type = class_line names cause y c

-- the first variable of a value without a type of its own whose class isn't over stable controls
abbrev pub value_class : Plain → (stable controls : List Bool) → Option Term → Option (ℕ × ℕ)
value_class p stable controls None = None
value_class p stable controls (Some e) = first_unstable_class p stable controls (vars e)

abbrev pub types_line : Plain → Names → (cause : ℕ → List ℕ) → (stable controls stable_controls : List Bool) → Stm → List ℕ
types_line p names cause stable controls stable_controls s =
    class_or_type_line names cause (value_class p stable controls (untyped_value s))
    (type_line names cause controls (first_with_outside stable_controls (stated_types s)))

-- V8: which locks are held at two ends -------------------------------------------------------------------------

-- the names of those that are held, from the lock of a number on
abbrev pub held_names : (l : ℕ) → (held : List Bool) → List Lock → List (List ℕ)
held_names l held [] = []
held_names l held (k ∷ ks) = if has held l then k.name ∷ held_names (suc l) held ks else held_names (suc l) held ks

abbrev pub listed_names : List (List ℕ) → List ℕ
listed_names [] = codes "none"
listed_names (n ∷ ns) = n ++ flat_map (λ m. codes ", " ++ m) ns

abbrev pub held_text : List Lock → (held : List Bool) → List ℕ
held_text locks held = listed_names (held_names 0 held locks)

-- at two places, each with words in front
abbrev pub two_ends : (front between : List ℕ) → List Lock → (first second : List Bool) → List ℕ
two_ends front between locks first second = front ++ held_text locks first ++ between ++ held_text locks second ++ codes "\n"

-- at the two ends of a branch, and at the end and the start of the block of a loop, with what changes the locks that are held at one of them alone
abbrev pub branch_ends : (bytes : List ℕ) → List Lock → (first second : List Bool) → (a b : Block) → List ℕ
branch_ends bytes locks first second a b =
    two_ends (codes "  held at the end of the first block: ") (codes "; at the end of the second: ") locks first second
    ++ changes bytes first second a (Some b) 0 locks

abbrev pub loop_ends : (bytes : List ℕ) → List Lock → (start end : List Bool) → Block → List ℕ
loop_ends bytes locks start end b =
    two_ends (codes "  held at the start of the block: ") (codes "; at its end: ") locks start end ++ changes bytes end start b None 0 locks

-- of blocks, by the locks that are held in front of them
abbrev pub nested_ends : (bytes : List ℕ) → List Lock → (held : List Bool) → Nested → List ℕ
nested_ends bytes locks held none = []
nested_ends bytes locks held (turn b) = loop_ends bytes locks held (held_at_end b held) b
nested_ends bytes locks held (either a b) = branch_ends bytes locks (held_at_end a held) (held_at_end b held) a b

abbrev pub ends_line : (bytes : List ℕ) → List Lock → (held : List Bool) → Stm → List ℕ
ends_line bytes locks held s = nested_ends bytes locks held (parts s).nested

-- V15: the predicate that is one too many ----------------------------------------------------------------------

abbrev pub invariant_line : Names → (lock_name : List ℕ) → Option Term → List ℕ
invariant_line names lock_name None = []
invariant_line names lock_name (Some e) = codes "  one too many is the invariant of " ++ lock_name ++ codes ": `" ++ whole names e ++ codes "`\n"

abbrev pub lock_line : Names → Lock → List ℕ
lock_line names l = invariant_line names l.name l.inv

abbrev pub guard_line : Names → Term → List ℕ
guard_line names e = codes "  one too many is the guard or its negation: `" ++ whole names e ++ codes "`\n"

abbrev pub equation_line : Names → (x : ℕ) → Term → List ℕ
equation_line names x e = codes "  one too many is the equation `" ++ name names x ++ codes " == " ++ expr names true e ++ codes "`\n"

-- where something is stored, a lock is taken, or there is a guard
abbrev pub added_where : Plain → Names → Option Store → (taken : Option ℕ) → (guard : Option Term) → List ℕ
added_where p names (Some k) taken guard = equation_line names k.variable k.value
added_where p names None (Some l) guard = lock_line names (lock_at p l)
added_where p names None None (Some e) = guard_line names e
added_where p names None None None = []

abbrev pub added_line : Plain → Names → Stm → List ℕ
added_line p names s = added_where p names (parts s).store (parts s).taken (parts s).guard
