-- Where the type of a variable behind steps comes from: the last step that sets it.
--
-- By the rules of types: a join and what a loop states set every type, listed or not; a note and the new types of an assignment to a
-- control set those that they list.
use Rattle.std.specs.Prelude.{ℕ, ◌+◌, ◌==◌, List, [], ◌∷◌, Bool, map, if◌then◌else◌, Option, Some, None}
use Rattle.std.specs.List.{list_any}
use Rattle.cov_expr.specs.Term.{Term}
use Rattle.cov_ast.specs.Declarations.{lists}
use Rattle.cov_ast.specs.Plain.{Plain}
use Rattle.cov_ast.specs.Syntax.{State, Stm}
use Rattle.cov_ast.specs.Tables.{has}
use Rattle.statement_parts.specs.Parts.{either, Nested, none, parts, Store, turn}
use Rattle.statement_paths.specs.Paths.{Step, passed, yes, no, head, place_of}
use Rattle.entail_origins.specs.declared.type_origin.By.{By}
use Rattle.entail_origins.specs.declared.type_origin.By.TheVariants as by
use Rattle.entail_origins.specs.declared.type_origin.TypeOrigin.{TypeOrigin}
use Rattle.entail_origins.specs.declared.type_origin.TypeSource.{TypeSource}
use Rattle.entail_origins.specs.declared.type_origin.TypeSource.TheVariants as source

-- whether types are listed for a variable
abbrev pub is_listed : List (ℕ × Term) → (z : ℕ) → Bool
is_listed types z = list_any (λ r. r.0 == z) types

-- the set of the locks that a variable is under
abbrev pub locks_over : Plain → (z : ℕ) → List Bool
locks_over p z = map (λ l. lists l z) p.locks

-- What a step gives to the type of a variable -------------------------------------------------------------------

-- something, where a condition holds
abbrev pub where_true : {A : Type 0} → Bool → A → Option A
where_true holds x = if holds then Some x else None

-- of a state that sets every type
abbrev pub set_by_state : (z : ℕ) → By → State → TypeSource
set_by_state z by j = if is_listed j.types z then source.Listed by else source.Unlisted by

-- of types that set those of their variables alone
abbrev pub set_by_types : (z : ℕ) → By → List (ℕ × Term) → Option TypeSource
set_by_types z by types = where_true (is_listed types z) (source.Listed by)

-- what is stated with blocks sets every type, and a note those that it lists
abbrev pub set_where_stated : (z : ℕ) → Nested → State → Option TypeSource
set_where_stated z none j = set_by_types z by.Noted j.types
set_where_stated z (turn b) j = Some (set_by_state z by.LoopState j)
set_where_stated z (either a b) j = Some (set_by_state z by.Join j)

-- a control has no type itself: what is stored there gives the types that are written behind it
abbrev pub set_by_assignment : (controls : List Bool) → (z x : ℕ) → (retypes : List (ℕ × Term)) → Option TypeSource
set_by_assignment controls z x retypes = if has controls x then set_by_types z by.Retype retypes else where_true (x == z) source.Stored

-- with the set of the controls, and the set of the locks that the variable is under
module _ (controls locks : List Bool) (z : ℕ) where
  -- by what is stored, the lock that is taken, or what is stated
  abbrev pub set_where : Option Store → (taken : Option ℕ) → Nested → Option State → Option TypeSource
  set_where (Some k) taken nested j = set_by_assignment controls z k.variable k.retypes
  set_where None (Some l) nested j = where_true (has locks l) (source.Taken l)
  set_where None None nested None = None
  set_where None None nested (Some j) = set_where_stated z nested j

  -- what in a statement sets the type behind it
  abbrev pub set_past : Stm → Option TypeSource
  set_past s = set_where (parts s).store (parts s).taken (parts s).nested (parts s).state

  -- what in a step sets the type at its end
  abbrev pub set_by : Step → Option TypeSource
  set_by (passed at s) = set_past s
  set_by (yes at e) = None
  set_by (no at e) = None
  set_by (head at inv) = Some (set_by_state z by.LoopState inv)

-- The origin of a type ------------------------------------------------------------------------------------------

-- a type that was set by the step with this index, which is how many stand in front of it
abbrev pub set_at : (index at : ℕ) → TypeSource → TypeOrigin
set_at index at source = record { source = source; at = at; index = index }

-- what sets the type is the origin from then on
abbrev pub with_source : (index at : ℕ) → Option TypeSource → Option TypeOrigin → Option TypeOrigin
with_source index at (Some source) o = Some (set_at index at source)
with_source index at None o = o

module _ (controls locks : List Bool) (z : ℕ) where
  abbrev pub origin_after_step : (index : ℕ) → Step → Option TypeOrigin → Option TypeOrigin
  origin_after_step index s o = with_source index (place_of s) (set_by controls locks z s) o

  abbrev pub origin_after_steps : (index : ℕ) → List Step → Option TypeOrigin → Option TypeOrigin
  origin_after_steps index [] o = o
  origin_after_steps index (s ∷ ss) o = origin_after_steps (index + 1) ss (origin_after_step index s o)

  -- the origin of the type of the variable behind steps from the start of the thread; none where no step sets it
  abbrev pub origin_along : List Step → Option TypeOrigin
  origin_along ss = origin_after_steps 0 ss None
