-- Of which types is told: those that make up a goal, and behind each that comes from an assignment those of the variables of its value, at
-- the point in front of it.
--
-- The index of the assignment's step is also how many steps lead to the point in front of it. An assignment that says the type itself
-- isn't followed, and no control is, whose type is 1.
use Rattle.std.specs.Prelude.{ℕ, zero, suc, nat_lt, ◌==◌, ◌&&◌, ◌||◌, List, [], ◌∷◌, ◌++◌, Bool, length, take, if◌then◌else◌, Option, Some, None}
use Rattle.std.specs.List.{list_any, slice_get}
use Rattle.cov_expr.specs.Term.{Term}
use Rattle.cov_ast.specs.Plain.{Plain}
use Rattle.cov_ast.specs.Tables.{has}
use Rattle.statement_paths.specs.Paths.{Step, passed, yes, no, head}
use Rattle.entail_origins.specs.AskedVariables.{untyped_value, vars_of}
use Rattle.entail_origins.specs.KnownTypes.{known_after_steps}
use Rattle.entail_origins.specs.TypeOrigins.{locks_over, origin_along}
use Rattle.entail_origins.specs.declared.followed_types.VariableAt.{VariableAt}
use Rattle.entail_origins.specs.declared.known_types.Known.{Known}
use Rattle.entail_origins.specs.declared.type_origin.TypeOrigin.{TypeOrigin}
use Rattle.entail_origins.specs.declared.type_origin.TypeSource.{TypeSource}
use Rattle.entail_origins.specs.declared.type_origin.TypeSource.TheVariants as source

-- Variables of a value -----------------------------------------------------------------------------------------

-- a variable at the point behind the first so many steps
abbrev pub at_point : (steps z : ℕ) → VariableAt
at_point steps z = record { var = z; steps = steps }

-- whether a variable is there at a point
abbrev pub is_there : List VariableAt → (steps z : ℕ) → Bool
is_there all steps z = list_any (λ v. v.var == z && v.steps == steps) all

-- with a variable of a value more, unless it is a control or is there at that point already; of more than `most` one is enough
abbrev pub with_variable : (most : ℕ) → (controls : List Bool) → (steps : ℕ) → List VariableAt → (z : ℕ) → List VariableAt
with_variable most controls steps all z = if has controls z || nat_lt most (length all) || is_there all steps z then all else all ++ at_point steps z ∷ []

abbrev pub with_variables : (most : ℕ) → (controls : List Bool) → (steps : ℕ) → List VariableAt → List ℕ → List VariableAt
with_variables most controls steps all [] = all
with_variables most controls steps all (z ∷ zs) = with_variables most controls steps (with_variable most controls steps all z) zs

-- What is behind a type ----------------------------------------------------------------------------------------

-- the value that a step stores, where its type is that of its variables
abbrev pub value_in : Option Step → Option Term
value_in None = None
value_in (Some (passed at s)) = untyped_value s
value_in (Some (yes at e)) = None
value_in (Some (no at e)) = None
value_in (Some (head at inv)) = None

-- the value whose type a source says, that sets a type in a step
abbrev pub followed_value : TypeSource → Option Step → Option Term
followed_value source.Stored s = value_in s
followed_value (source.Taken l) s = None
followed_value (source.Listed by) s = None
followed_value (source.Unlisted by) s = None

-- where the type of a variable behind steps comes from, if it is tracked there
abbrev pub origin_of : Plain → List Step → Known → (z : ℕ) → Option TypeOrigin
origin_of p steps known z =
    if has known.controls z then None else (if has known.stable z then origin_along known.controls (locks_over p z) z steps else None)

-- with the variables behind an origin
abbrev pub with_origin : (most : ℕ) → (controls : List Bool) → List Step → List VariableAt → Option TypeOrigin → List VariableAt
with_origin most controls steps all None = all
with_origin most controls steps all (Some o) = with_variables most controls o.index all (vars_of (followed_value o.source (slice_get steps o.index)))

module _ (p : Plain) (t most : ℕ) where
  -- with the variables behind the type of a variable behind steps
  abbrev pub with_behind : List Step → List VariableAt → (z : ℕ) → List VariableAt
  with_behind steps all z = let known = known_after_steps p t steps in with_origin most known.controls steps all (origin_of p steps known z)

  module _ (steps : List Step) where
    -- with those behind one of them, if there is one
    abbrev pub with_each : List VariableAt → Option VariableAt → List VariableAt
    with_each all None = all
    with_each all (Some v) = with_behind (take v.steps steps) all v.var

    abbrev pub with_next : (n : ℕ) → List VariableAt → List VariableAt
    with_next n all = with_each all (slice_get all n)

    -- with those behind the first n of them in turn, which are then behind these
    abbrev pub followed : (n : ℕ) → List VariableAt → List VariableAt
    followed zero all = all
    followed (suc n) all = with_next n (followed n all)
