-- What the origin and the last change of a type say of the type at the point behind steps, by the rules of types.
use Rattle.std.specs.List.{All}
use Rattle.std.specs.Prelude.{◌≡◌, ℕ, ◌+◌, length, List, [], ◌∷◌, ◌++◌, Bool, true, Option, Some, None, option_map, is_some}
use Rattle.cov_expr.specs.Term.{Term}
use Rattle.cov_ast.specs.Declarations.{class_of}
use Rattle.cov_ast.specs.Plain.{Plain}
use Rattle.cov_ast.specs.Syntax.{Stm}
use Rattle.point_law.specs.Point.{controls_of}
use Rattle.typing_points.specs.Points.{after_step, point_after_steps}
use Rattle.statement_parts.specs.Parts.{listed_types, parts}
use Rattle.statement_paths.specs.Paths.{Step, passed, yes, no, head, place_of}
use Rattle.typing_law.specs.Blocks.{value_type}
use Rattle.point_law.specs.Point.{Point, default_type, given_type}
use Rattle.point_law.specs.Terms.{listed}
use Rattle.entail_origins.specs.TypeChanges.{change_along, changed_by}
use Rattle.entail_origins.specs.TypeOrigins.{locks_over, origin_along, set_by}
use Rattle.entail_origins.specs.declared.type_origin.Later.{Later}
use Rattle.entail_origins.specs.declared.type_origin.TypeOrigin.{TypeOrigin}
use Rattle.entail_origins.specs.declared.type_origin.TypeSource.{TypeSource}
use Rattle.entail_origins.specs.declared.type_origin.TypeSource.TheVariants as source

-- What a step gives to the type of a variable --------------------------------------------------------------------

-- the types that a statement lists
abbrev pub types_of : Stm → List (ℕ × Term)
types_of s = listed_types (parts s).store (parts s).state

-- the types that are listed in a step
abbrev pub types_in : Step → List (ℕ × Term)
types_in (passed at s) = types_of s
types_in (yes at e) = []
types_in (no at e) = []
types_in (head at inv) = inv.types

module _ (p : Plain) (t : ℕ) where
  -- the type of the value that a statement stores
  abbrev pub stored_by : Stm → Point → Option Term
  stored_by s a = option_map (λ k. value_type p t a k.written k.value) (parts s).store

  -- the type of the value that is stored in a step
  abbrev pub stored_in : Step → Point → Option Term
  stored_in (passed at s) a = stored_by s a
  stored_in s a = None

-- what a source says, where this is stored and listed, and these locks are held
abbrev pub type_by_source : Plain → (t z : ℕ) → (stored : Option Term) → (types : List (ℕ × Term)) → (held : List Bool) → TypeSource → Option Term
type_by_source p t z stored types held source.Stored = stored
type_by_source p t z stored types held (source.Taken l) = Some (class_of p z)
type_by_source p t z stored types held (source.Listed by) = listed types z
type_by_source p t z stored types held (source.Unlisted by) = Some (default_type p t held z)

-- what a source says of a step from a point
abbrev pub type_by_source_in : Plain → (t z : ℕ) → Step → Point → TypeSource → Option Term
type_by_source_in p t z s a source = type_by_source p t z (stored_in p t s a) (types_in s) (after_step p t s a).held source

-- What an origin says --------------------------------------------------------------------------------------------

-- the type of a variable at the point of a thread behind steps, if it is tracked there
abbrev pub type_after_steps : Plain → (t z : ℕ) → List Step → Option Term
type_after_steps p t z steps = given_type (point_after_steps p t steps) z

-- The step with the index of an origin is at its place and no later one sets the type, and the type behind all of them is what the source
-- of the origin says of it, from the point behind those in front.
pub record ComesFrom (p : Plain) (t z : ℕ) (steps : List Step) (o : TypeOrigin) : Type 0 where
  pub front : List Step
  pub step : Step
  pub back : List Step
  pub parts : steps ≡ front ++ step ∷ back
  pub counted : length front ≡ o.index
  pub placed : place_of step ≡ o.at
  pub last : All (λ s. set_by (controls_of p) (locks_over p z) z s ≡ None) back
  pub sets : set_by (controls_of p) (locks_over p z) z step ≡ Some o.source
  pub says : type_after_steps p t z steps ≡ type_by_source_in p t z step (point_after_steps p t front) o.source

-- without an origin the type is the class
abbrev pub IsFrom : Plain → (t z : ℕ) → List Step → Option TypeOrigin → Type 0
IsFrom p t z steps None = type_after_steps p t z steps ≡ Some (class_of p z)
IsFrom p t z steps (Some o) = ComesFrom p t z steps o

-- What a change says ---------------------------------------------------------------------------------------------

-- The last of the steps that a change counts is at its place and does what the change says, and by it the type becomes another, which is
-- what is known of the variable without more. Behind it no step sets the type, and none changes it.
pub record Changed (p : Plain) (t z : ℕ) (steps : List Step) (c : Later) : Type 0 where
  pub front : List Step
  pub step : Step
  pub back : List Step
  pub parts : steps ≡ front ++ step ∷ back
  pub counted : length front + 1 ≡ c.steps
  pub placed : place_of step ≡ c.at
  pub by : changed_by (controls_of p) step ≡ Some c.change
  pub last : All (λ s. set_by (controls_of p) (locks_over p z) z s ≡ None) (step ∷ back)
  pub differs : ¬ (type_after_steps p t z (front ++ step ∷ []) ≡ type_after_steps p t z front)
  pub becomes : type_after_steps p t z steps ≡ Some (default_type p t (point_after_steps p t (front ++ step ∷ [])).held z)

-- Where no change is told, and the variable is tracked, the type is from its origin. One that is known did change it.
abbrev pub IsTold : Plain → (t z : ℕ) → List Step → Option TypeOrigin → Option Later → Type 0
IsTold p t z steps o None = is_some (type_after_steps p t z steps) ≡ true → IsFrom p t z steps o
IsTold p t z steps o (Some c) = c.is_known ≡ true → is_some (type_after_steps p t z steps) ≡ true → Changed p t z steps c

-- the origin and the last change of the type of a variable tell of it behind these steps
abbrev pub TellsOfType : Plain → (t z : ℕ) → List Step → Type 0
TellsOfType p t z steps =
    IsTold p t z steps (origin_along (controls_of p) (locks_over p z) z steps) (change_along p t (controls_of p) (locks_over p z) z steps)
