-- What the entailments of a statement ask, one by one: of which variable, of which lock, at the end of which block.
use Rattle.std.specs.Prelude.{ℕ, ◌+◌, zero, suc, ◌&&◌, ◌||◌, List, [], ◌∷◌, ◌++◌, length, map, filter, slice_get, Bool, not, if◌then◌else◌, Option, Some, None, option_map, option_to_list}
use Rattle.std.specs.List.{range_with_len}
use Rattle.cov_expr.specs.Term.{Term}
use Rattle.cov_expr.specs.Trees.{mentions}
use Rattle.cov_ast.specs.Declarations.{class_of, is_control, lock_at}
use Rattle.cov_ast.specs.Plain.{Plain, plain}
use Rattle.cov_ast.specs.Syntax.{State, Stm, Program}
use Rattle.mode_compat.specs.Compatible.{numbered}
use Rattle.mode_state.specs.Sets.{is_hidden}
use Rattle.statement_parts.specs.Parts.{either, Nested, none, parts, Store, turn}
use Rattle.statement_paths.specs.Paths.{Way, way_to}
use Rattle.cov_ast.specs.LocksAlong.{no_locks}
use Rattle.statement_paths.specs.LocksHeld.{held_along}
use Rattle.entail_origins.specs.declared.kinds.Asked.{Asked}
use Rattle.entail_origins.specs.declared.kinds.End.{End}
use Rattle.entail_origins.specs.declared.kinds.End.TheVariants as e
use Rattle.entail_origins.specs.declared.kinds.Question.{Question}
use Rattle.entail_origins.specs.declared.kinds.Question.TheVariants as q

-- States -------------------------------------------------------------------------------------------------------

-- of predicates, of which the first has this number
abbrev pub of_preds : End → (number : ℕ) → List Term → List Question
of_preds end number [] = []
of_preds end number (r ∷ rs) = q.Predicate end number ∷ of_preds end (number + 1) rs

-- of a state that is to be met: each predicate, and then each type
abbrev pub of_state : End → State → List Question
of_state end j = of_preds end 1 j.preds ++ map (λ r. q.TypeOf end r.0) j.types

-- Of what is stated: a note is to be met where it stands, the state of a loop in front of it and at the end of its block, and that of a
-- branch at the ends of its blocks. The guard of either is asked of, that of a loop at its head.
abbrev pub of_stated : Nested → State → List Question
of_stated none j = of_state e.Here j
of_stated (turn b) j = of_state e.Entry j ++ (q.HeadGuard ∷ of_state e.Body j)
of_stated (either a b) j = q.Guard ∷ (of_state e.FirstBlock j ++ of_state e.SecondBlock j)

-- Statements ---------------------------------------------------------------------------------------------------

-- whether a type is written
abbrev pub of_written : Option Term → List Question
of_written None = []
of_written (Some r) = q.Written ∷ []

-- of a lock that is given back: its invariant, and what it hides no longer
abbrev pub of_returned : Plain → (l : ℕ) → List Question
of_returned p l =
    map (λ r. q.Invariant l) (option_to_list (lock_at p l).inv) ++ map q.Freed (filter (λ x. not (is_control p x)) (lock_at p l).hide)

-- `hidden` says which variables no other thread may read.
module _ (p : Plain) (hidden : ℕ → Bool) where
  -- what is assigned may be seen, or decides of others
  abbrev pub of_shown : (x : ℕ) → List Question
  of_shown x = if is_control p x || not (hidden x) then q.Shown x ∷ [] else []

  -- whether a control decides of a variable whether it is low, and another thread may read it
  abbrev pub is_shown_by : (x y : ℕ) → Bool
  is_shown_by x y = mentions (class_of p y) x && not (hidden y)

  -- the variables of which a control decides, in the order of their declarations
  abbrev pub of_controlled : (x : ℕ) → List Question
  of_controlled x = if is_control p x then map q.Controlled (filter (is_shown_by x) (range_with_len 0 (length p.vars))) else []

  abbrev pub of_assignment : (x : ℕ) → Option Term → (retypes : List (ℕ × Term)) → List Question
  of_assignment x written retypes = of_written written ++ of_shown x ++ of_controlled x ++ map (λ r. q.Retyped r.0) retypes

  -- by what is stored, the lock that is given back, what is put out, or what is stated
  abbrev pub of_parts : Option Store → (returned : Option ℕ) → (printed : Option Term) → Nested → Option State → List Question
  of_parts (Some k) returned printed nested j = of_assignment k.variable k.written k.retypes
  of_parts None (Some l) printed nested j = of_returned p l
  of_parts None None (Some r) nested j = q.Printed ∷ []
  of_parts None None None nested None = []
  of_parts None None None nested (Some j) = of_stated nested j

  -- those of a statement itself, and not those of its blocks
  abbrev pub of_statement : Stm → List Question
  of_statement s = of_parts (parts s).store (parts s).returned (parts s).printed (parts s).nested (parts s).state

-- those of a statement in front of which the thread holds these locks
abbrev pub questions : Plain → (t : ℕ) → (held : List Bool) → Stm → List Question
questions p t held s = of_statement p (is_hidden p t held) s

-- By place and number ------------------------------------------------------------------------------------------

-- the question of a number, counted from 1, with how many there are
abbrev pub asked_among : List Question → (number : ℕ) → Option Asked
asked_among all zero = None
asked_among all (suc i) = option_map (λ found. record { question = found; of = length all }) (slice_get all i)

-- of the statement at the end of a way, if there is one
abbrev pub asked_of_way : Plain → (t : ℕ) → Option Way → (number : ℕ) → Option Asked
asked_of_way p t None number = None
asked_of_way p t (Some w) number = asked_among (questions p t (held_along w.steps (no_locks p)) w.stm) number

-- What the entailment with this number asks, of those of the statement at this place of a thread. `None` comes where there is no
-- such statement or no such entailment.
abbrev pub asked : Program → (t place number : ℕ) → Option Asked
asked p t place number = asked_of_way (plain p) t (way_to (numbered p t).body place) number
