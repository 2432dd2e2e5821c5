-- The last step behind the origin of a variable's type at which that type changed.
--
-- By the rules of types a type is forgotten where it mentions a control that is stored to, or what a lock that is given back protects.
-- Whether it was is seen by the types of the variable at the points in front of the step and behind it, where these are built; where
-- one isn't, since a type on the way is too large, it may have been.
use Rattle.std.specs.Prelude.{ℕ, ◌+◌, List, [], ◌∷◌, Bool, true, false, if◌then◌else◌, Option, Some, None, option_and_then, option_map}
use Rattle.cov_expr.specs.Term.{Term}
use Rattle.cov_expr.specs.Trees.{same}
use Rattle.cov_ast.specs.Plain.{Plain}
use Rattle.cov_ast.specs.Syntax.{Stm}
use Rattle.cov_ast.specs.Tables.{has}
use Rattle.point_law.specs.After.{start}
use Rattle.point_law.specs.Point.{Point, given_type}
use Rattle.statement_parts.specs.Parts.{parts, Store}
use Rattle.statement_paths.specs.Paths.{Step, passed, yes, no, head, place_of}
use Rattle.typing_points.specs.PointsBehind.{behind_step}
use Rattle.entail_origins.specs.TypeOrigins.{set_by, where_true}
use Rattle.entail_origins.specs.declared.type_origin.Later.{Later}
use Rattle.entail_origins.specs.declared.type_origin.TypeChange.{TypeChange}
use Rattle.entail_origins.specs.declared.type_origin.TypeChange.TheVariants as change
use Rattle.entail_origins.specs.declared.type_origin.TypeSource.{TypeSource}

-- What may forget a type -----------------------------------------------------------------------------------------

-- with the set of the controls
module _ (controls : List Bool) where
  -- what is stored, or the lock that is given back
  abbrev pub changed_where : Option Store → (returned : Option ℕ) → Option TypeChange
  changed_where (Some k) returned = where_true (has controls k.variable) (change.ControlStored k.variable)
  changed_where None (Some l) = Some (change.Returned l)
  changed_where None None = None

  -- what may forget it behind a statement
  abbrev pub changed_past : Stm → Option TypeChange
  changed_past s = changed_where (parts s).store (parts s).returned

  -- what may forget it in a step
  abbrev pub changed_by : Step → Option TypeChange
  changed_by (passed at s) = changed_past s
  changed_by (yes at e) = None
  changed_by (no at e) = None
  changed_by (head at inv) = None

-- Whether a type changed -----------------------------------------------------------------------------------------

-- whether a variable that has one of these types, or none, has the other
abbrev pub is_same_type : (front behind : Option Term) → Bool
is_same_type None None = true
is_same_type (Some q) (Some r) = same q r
is_same_type q r = false

-- the type of a variable at a point that is built, if it has one there
abbrev pub type_there : (z : ℕ) → Option Point → Option (Option Term)
type_there z a = option_map (λ b. given_type b z) a

-- that a type is known to have changed, unless the other is the same
abbrev pub where_other : (front behind : Option Term) → Option Bool
where_other q r = if is_same_type q r then None else Some true

-- Whether it is known that a type changed between two points: true where it did, false where one of them isn't built, so that it may have.
-- None where it didn't.
abbrev pub seen : (front behind : Option (Option Term)) → Option Bool
seen (Some q) (Some r) = where_other q r
seen front behind = Some false

-- the type at the point in front, where something may forget it
abbrev pub watched : Option TypeChange → (z : ℕ) → Option Point → Option (Option Term)
watched None z a = None
watched (Some change) z a = type_there z a

-- Changes --------------------------------------------------------------------------------------------------------

-- a change in the last of so many steps
abbrev pub change_at : (steps at : ℕ) → TypeChange → (is_known : Bool) → Later
change_at steps at change known = record { change = change; at = at; steps = steps; is_known = known }

-- with what may forget the type in a step, where it did or may have
abbrev pub with_change : (steps at : ℕ) → Option TypeChange → (changed : Option Bool) → Option Later → Option Later
with_change steps at (Some change) (Some known) l = Some (change_at steps at change known)
with_change steps at change changed l = l

-- what sets the type begins anew
abbrev pub unless_set : Option TypeSource → Option Later → Option Later
unless_set None l = l
unless_set (Some source) l = None

module _ (p : Plain) (t : ℕ) (controls locks : List Bool) (z : ℕ) where
  -- behind one step more, the last of so many, which leads from one point to another
  abbrev pub change_after_step : (steps : ℕ) → Step → (front behind : Option Point) → Option Later → Option Later
  change_after_step steps s front behind l =
      unless_set (set_by controls locks z s) (with_change steps (place_of s) (changed_by controls s) (seen (type_there z front) (type_there z behind)) l)

  -- behind further steps from a point, where so many stand in front
  abbrev pub change_after_steps : (steps : ℕ) → Option Point → List Step → Option Later → Option Later
  change_after_steps steps a [] l = l
  change_after_steps steps a (s ∷ ss) l =
      let b = option_and_then (behind_step p t s) a in change_after_steps (steps + 1) b ss (change_after_step (steps + 1) s a b l)

  -- the last change of the type of the variable behind its origin, in steps from the start of the thread
  abbrev pub change_along : List Step → Option Later
  change_along ss = change_after_steps 0 (Some (start p t)) ss None
