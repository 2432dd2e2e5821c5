-- A line for each variable whose type makes up a goal: where its type comes from; and behind these, where it comes from an assignment, lines
-- for the variables of its value. Classes, values and written types are spelled canonically.
use Rattle.std.specs.Prelude.{ℕ, ◌+◌, ◌-◌, ◌==◌, length, map, take, List, [], ◌∷◌, ◌++◌, Bool, true, false, codes, decimal, if◌then◌else◌, Option, Some, None}
use Rattle.std.specs.List.{slice_get}
use Rattle.cov_expr.specs.Term.{Term, const}
use Rattle.cov_ast.specs.Declarations.{class_of, lock_at, name_of, var_at}
use Rattle.cov_ast.specs.Plain.{Plain}
use Rattle.cov_ast.specs.Syntax.{Lock, Stm}
use Rattle.cov_ast.specs.Tables.{has}
use Rattle.cov_print.specs.Spelling.{Names, whole}
use Rattle.entail_origins.specs.declared.kinds.Question.{Question}
use Rattle.text_parts.specs.VariableNames.{variable_names}
use Rattle.statement_parts.specs.Parts.{parts, Store}
use Rattle.statement_paths.specs.Paths.{Step, passed, yes, no, head, place_of}
use Rattle.statement_paths.specs.VariableSets.{hidden_after_steps}
use Rattle.text_parts.specs.Lines.{line}
use Rattle.entail_origins.specs.AskedVariables.{variables_of}
use Rattle.entail_origins.specs.FollowedTypes.{at_point, followed}
use Rattle.entail_origins.specs.KnownTypes.{known_after_steps}
use Rattle.entail_origins.specs.LocksOver.{lock_over}
use Rattle.entail_origins.specs.TypeChanges.{change_along}
use Rattle.entail_origins.specs.TypeOrigins.{locks_over, origin_along}
use Rattle.entail_origins.specs.declared.followed_types.VariableAt.{VariableAt}
use Rattle.entail_origins.specs.declared.known_types.Known.{Known}
use Rattle.entail_origins.specs.declared.type_origin.By.{By}
use Rattle.entail_origins.specs.declared.type_origin.By.TheVariants as by
use Rattle.entail_origins.specs.declared.type_origin.TypeChange.{TypeChange}
use Rattle.entail_origins.specs.declared.type_origin.TypeChange.TheVariants as change
use Rattle.entail_origins.specs.declared.type_origin.Later.{Later}
use Rattle.entail_origins.specs.declared.type_origin.TypeOrigin.{TypeOrigin}
use Rattle.entail_origins.specs.declared.type_origin.TypeSource.{TypeSource}
use Rattle.entail_origins.specs.declared.type_origin.TypeSource.TheVariants as source

-- The words on an origin ---------------------------------------------------------------------------------------

-- what lists types, or doesn't
abbrev pub list_word : By → List ℕ
list_word by.Join = codes "join of the `if`"
list_word by.LoopState = codes "inv of the `while`"
list_word by.Noted = codes "note"
list_word by.Retype = codes "retype"

abbrev pub listed_text : By → List ℕ
listed_text by.Join = codes "listed by the join of the `if`"
listed_text by.LoopState = codes "listed by the inv of the `while`"
listed_text by.Noted = codes "listed by the note"
listed_text by.Retype = codes "from the retype"

-- the level of a class that is a constant; of others it depends on the memory
abbrev pub level_part : Term → List ℕ
level_part (const k) = if k == 0 then codes " (high)" else codes " (low)"
level_part e = []

-- what stands behind a class
abbrev pub class_end : Term → List ℕ
class_end e = codes "`" ++ level_part e

-- a class that is this expression
abbrev pub spelled_class : Names → Term → List ℕ
spelled_class names e = codes "its class `" ++ whole names e ++ class_end e

-- the class of a variable
abbrev pub class_text : Plain → Names → (z : ℕ) → List ℕ
class_text p names z = spelled_class names (class_of p z)

-- whether a class is high whatever the memory
abbrev pub is_always_high : Term → Bool
is_always_high (const k) = k == 0
is_always_high e = false

-- the line of a place of the program's text
abbrev pub place_text : (bytes : List ℕ) → (at : ℕ) → List ℕ
place_text bytes at = codes ", line " ++ decimal (line bytes at)

-- nothing, of a variable that no other thread may read, with what hides it: the first lock that lists it, and else the thread
abbrev pub hidden_by_lock : (bytes : List ℕ) → Lock → List ℕ
hidden_by_lock bytes l = codes "0 (the lock " ++ (l.name ++ (place_text bytes l.at ++ codes ", hides it: under `nowrite` its class would count)"))

abbrev pub hidden_by_thread : List ℕ
hidden_by_thread = codes "0 (the thread hides it: under `nowrite` its class would count)"

abbrev pub hider_text : (bytes : List ℕ) → Option Lock → List ℕ
hider_text bytes None = hidden_by_thread
hider_text bytes (Some l) = hidden_by_lock bytes l

-- what is known of a variable without more, by whether no other thread may read it, its place, and whether it is always high
abbrev pub known_text : Plain → Names → (bytes : List ℕ) → (z : ℕ) → (hidden : Bool) → (at : ℕ) → (is_high : Bool) → List ℕ
known_text p names bytes z hidden at true = class_text p names z ++ place_text bytes at
known_text p names bytes z true at false = hider_text bytes (lock_over z p.locks)
known_text p names bytes z false at false = class_text p names z

abbrev pub default_text : Plain → Names → (bytes : List ℕ) → (hidden : Bool) → (z : ℕ) → List ℕ
default_text p names bytes hidden z = known_text p names bytes z hidden (var_at p z).at (is_always_high (class_of p z))

abbrev pub taken_text : Plain → Names → (z l : ℕ) → List ℕ
taken_text p names z l = class_text p names z ++ codes ", from the lock " ++ (lock_at p l).name

abbrev pub unlisted_text : Plain → Names → (bytes : List ℕ) → (hidden : Bool) → (z : ℕ) → By → List ℕ
unlisted_text p names bytes hidden z by = default_text p names bytes hidden z ++ codes ", since no " ++ list_word by

-- what sets the type of a variable, in front of the line of it
abbrev pub source_text : Plain → Names → (bytes : List ℕ) → (hidden : Bool) → (z : ℕ) → TypeSource → List ℕ
source_text p names bytes hidden z source.Stored = codes "from the assignment"
source_text p names bytes hidden z (source.Taken l) = taken_text p names z l
source_text p names bytes hidden z (source.Listed by) = listed_text by
source_text p names bytes hidden z (source.Unlisted by) = unlisted_text p names bytes hidden z by

-- an expression in quotes, behind some words that begin them
abbrev pub quoted : Names → (words : List ℕ) → (e : Term) → List ℕ
quoted names words e = words ++ whole names e ++ codes "`"

-- a value, or the type that is written for it
abbrev pub value_text : Names → (q : Option Term) → (e : Term) → List ℕ
value_text names None e = quoted names (codes ", of `") e
value_text names (Some q) e = quoted names (codes ", which says that it is `") q

-- of what a statement stores
abbrev pub store_text : Names → Option Store → List ℕ
store_text names None = []
store_text names (Some k) = value_text names k.written k.value

abbrev pub stored_text : Names → Stm → List ℕ
stored_text names s = store_text names (parts s).store

-- the same of a step, if there is one
abbrev pub stored_in : Names → Option Step → List ℕ
stored_in names None = []
stored_in names (Some (passed at s)) = stored_text names s
stored_in names (Some (yes at e)) = []
stored_in names (Some (no at e)) = []
stored_in names (Some (head at inv)) = []

-- what stands behind the line of what sets a type, in the step with an index
abbrev pub source_end : Names → List Step → (index : ℕ) → TypeSource → List ℕ
source_end names steps index source.Stored = stored_in names (slice_get steps index)
source_end names steps index (source.Taken l) = []
source_end names steps index (source.Listed by) = []
source_end names steps index (source.Unlisted by) = codes ", lists it"

abbrev pub set_text : Plain → Names → (bytes : List ℕ) → List Step → (hidden : Bool) → (z : ℕ) → TypeOrigin → List ℕ
set_text p names bytes steps hidden z o =
    source_text p names bytes hidden z o.source ++ place_text bytes o.at ++ source_end names steps o.index o.source

abbrev pub is_stored : TypeSource → Bool
is_stored source.Stored = true
is_stored (source.Taken l) = false
is_stored (source.Listed by) = false
is_stored (source.Unlisted by) = false

-- a type that no step sets is the class
abbrev pub start_text : Plain → Names → (z : ℕ) → List ℕ
start_text p names z = class_text p names z ++ codes ", from the start of the thread"

-- where the type of a variable behind steps comes from
abbrev pub origin_text : Plain → Names → (bytes : List ℕ) → List Step → (hidden : Bool) → (z : ℕ) → Option TypeOrigin → List ℕ
origin_text p names bytes steps hidden z None = start_text p names z
origin_text p names bytes steps hidden z (Some o) = set_text p names bytes steps hidden z o

-- The words on a later change ----------------------------------------------------------------------------------

-- the control that is stored to, or the lock that is given back
abbrev pub change_subject : Plain → TypeChange → List ℕ
change_subject p (change.ControlStored x) = name_of p x
change_subject p (change.Returned l) = (lock_at p l).name

abbrev pub change_word : TypeChange → List ℕ
change_word (change.ControlStored x) = codes " is stored to"
change_word (change.Returned l) = codes " is given back"

-- a change, in front of the line of it
abbrev pub change_text : Plain → TypeChange → List ℕ
change_text p c = codes "; then " ++ change_subject p c ++ change_word c

-- what stands behind the line of a change that is known, or of one that may have been
abbrev pub change_end : (is_known : Bool) → TypeChange → List ℕ
change_end true (change.ControlStored x) = codes ", which it mentions, so that it becomes "
change_end false (change.ControlStored x) = codes ", which it may mention, so that it may become "
change_end true (change.Returned l) = codes ", and it mentions what that protects, so that it becomes "
change_end false (change.Returned l) = codes ", and it may mention what that protects, so that it may become "

-- what is known of a variable without more behind steps
abbrev pub default_behind : Plain → (t : ℕ) → Names → (bytes : List ℕ) → List Step → (z : ℕ) → List ℕ
default_behind p t names bytes steps z = default_text p names bytes (has (hidden_after_steps p t steps) z) z

-- a change, and what the type becomes by it, behind the last of the steps that it counts
abbrev pub changed_text : Plain → (t : ℕ) → Names → (bytes : List ℕ) → List Step → (z : ℕ) → Later → List ℕ
changed_text p t names bytes steps z c =
    change_text p c.change ++ place_text bytes c.at ++ change_end c.is_known c.change ++ default_behind p t names bytes (take c.steps steps) z

-- the last change of a type since it was set, if there is one
abbrev pub later_text : Plain → (t : ℕ) → Names → (bytes : List ℕ) → List Step → (z : ℕ) → Option Later → List ℕ
later_text p t names bytes steps z None = []
later_text p t names bytes steps z (Some c) = changed_text p t names bytes steps z c

-- The words on what sets another type --------------------------------------------------------------------------------

-- whether a type is that of a value that is stored
abbrev pub is_of_value : Option TypeOrigin → Bool
is_of_value None = false
is_of_value (Some o) = is_stored o.source

-- the assignment, where the type is that of its value
abbrev pub assignment_words : (of_value : Bool) → List ℕ
assignment_words true = codes ", or `as ..` at the assignment"
assignment_words false = []

abbrev pub retype_words : Plain → (z : ℕ) → List ℕ
retype_words p z = codes "; another is set by a store to it in front, or by `retype " ++ name_of p z

abbrev pub there_words : (of_value : Bool) → List ℕ
there_words of_value = codes " as ..` there, where that is shown" ++ assignment_words of_value

abbrev pub setters : Plain → (of_value : Bool) → (z : ℕ) → List ℕ
setters p of_value z = retype_words p z ++ there_words of_value

-- A store to a control forgets no type that a `retype` there sets.
abbrev pub mend_of : Plain → (of_value : Bool) → (z : ℕ) → TypeChange → List ℕ
mend_of p of_value z (change.ControlStored x) = setters p of_value z
mend_of p of_value z (change.Returned l) = []

abbrev pub mend_text : Plain → (z : ℕ) → Option TypeOrigin → Option Later → List ℕ
mend_text p z origin None = []
mend_text p z origin (Some c) = mend_of p (is_of_value origin) z c.change

-- Lines --------------------------------------------------------------------------------------------------------

-- where a type is looked at: in front of a step, which is in the line of an assignment, or at the point of which is asked
abbrev pub point_text : (bytes : List ℕ) → Option Step → List ℕ
point_text bytes None = []
point_text bytes (Some s) = codes " at line " ++ decimal (line bytes (place_of s))

-- behind so many of the steps
abbrev pub point_behind : (bytes : List ℕ) → List Step → (count : ℕ) → List ℕ
point_behind bytes steps count = point_text bytes (slice_get steps count)

-- what stands in front of the words on a variable
abbrev pub label : Plain → (bytes : List ℕ) → List Step → VariableAt → List ℕ
label p bytes steps v = codes "  type of " ++ name_of p v.var ++ point_behind bytes steps v.steps ++ codes ":  "

-- why the type of a variable is its class, which isn't stable: of one that is always high where it is declared
abbrev pub unstable_words : (is_high : Bool) → List ℕ
unstable_words true = codes "; it isn't stable here"
unstable_words false = codes ", since it isn't stable here: the thread doesn't assume that no other writes it, and holds no lock that it is under"

abbrev pub declared_text : (bytes : List ℕ) → (at : ℕ) → (is_high : Bool) → List ℕ
declared_text bytes at true = place_text bytes at
declared_text bytes at false = []

abbrev pub shared_end : (bytes : List ℕ) → (at : ℕ) → (is_high : Bool) → List ℕ
shared_end bytes at is_high = declared_text bytes at is_high ++ unstable_words is_high

-- of a variable that isn't stable
abbrev pub shared_text : Plain → Names → (bytes : List ℕ) → (z : ℕ) → List ℕ
shared_text p names bytes z = class_text p names z ++ shared_end bytes (var_at p z).at (is_always_high (class_of p z))

module _ (p : Plain) (t : ℕ) (names : Names) (bytes : List ℕ) (steps : List Step) (known : Known) (z : ℕ) where
  -- where a type comes from, what changed it since, and what sets another, of a variable that is under these locks
  abbrev pub history_text : (locks : List Bool) → List ℕ
  history_text locks =
      let origin = origin_along known.controls locks z steps in
      let later = change_along p t known.controls locks z steps in
      origin_text p names bytes steps (has known.hidden z) z origin ++ later_text p t names bytes steps z later ++ mend_text p z origin later

  -- where the type of a variable behind steps comes from
  abbrev pub type_text : List ℕ
  type_text =
      if has known.controls z then codes "1, as that of every control" else
      (if has known.stable z then history_text (locks_over p z) else shared_text p names bytes z)

-- the text on a variable behind steps
abbrev pub behind_text : Plain → (t : ℕ) → Names → (bytes : List ℕ) → List Step → (z : ℕ) → List ℕ
behind_text p t names bytes steps z = type_text p t names bytes steps (known_after_steps p t steps) z

module _ (p : Plain) (t : ℕ) (names : Names) (bytes : List ℕ) (steps : List Step) where
  abbrev pub type_line : VariableAt → List ℕ
  type_line v = label p bytes steps v ++ behind_text p t names bytes (take v.steps steps) v.var ++ codes "\n"

  -- at most so many lines, and a word on others
  abbrev pub lines_of : (most : ℕ) → List VariableAt → List ℕ
  lines_of most [] = []
  lines_of most (v ∷ vs) = if most == 0 then codes "  more types behind these are left out\n" else type_line v ++ lines_of (most - 1) vs

  -- the lines on variables, and on those behind their types, as far as there are eight at most
  abbrev pub lines_behind : List ℕ → List ℕ
  lines_behind zs = let most = length zs + 8 in lines_of most (followed p t most steps most (map (at_point (length steps)) zs))

-- The lines on the variables whose types make up the goal of what is asked of a statement, and on those behind them. The steps are those
-- of a thread to the point of which is asked.
abbrev pub type_lines : Plain → (t : ℕ) → (bytes : List ℕ) → List Step → Question → Stm → List ℕ
type_lines p t bytes steps question s = lines_behind p t (variable_names p.vars) bytes steps (variables_of question s)
