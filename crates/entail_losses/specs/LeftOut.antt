-- The predicates that would be known at a point, had the state of a branch, of a loop or of a note on the way to it listed them.
--
-- A state forgets each predicate that it doesn't list. One that a step in front of the state gives, whose variables are stable at the point and
-- since that step, and to which no statement behind that step stores, also in a block, would be a hypothesis there, had the states listed it. Whether the
-- ends of the blocks that are passed let it be listed isn't looked at.
use Rattle.std.specs.Prelude.{ℕ, ◌&&◌, ◌||◌, nat_lt, List, [], ◌∷◌, ◌++◌, length, map, set, Bool, true, false, not, if◌then◌else◌, Option, Some, None, option_map}
use Rattle.std.specs.Option.{option_or}
use Rattle.cov_expr.specs.declared.expr.Op.TheVariants.{Eq, Both}
use Rattle.cov_expr.specs.Term.{Term, const, var, neg, bin}
use Rattle.cov_expr.specs.Trees.{has_term, is_closed, mentions}
use Rattle.cov_expr.specs.View.{term}
use Rattle.cov_ast.specs.Declarations.{lock_at}
use Rattle.cov_ast.specs.Plain.{Plain}
use Rattle.cov_ast.specs.Syntax.{Lock, Stm, Block}
use Rattle.cov_ast.specs.Tables.{has}
use Rattle.statement_parts.specs.Parts.{collected, collected_in, either, Nested, none, Parts, parts, Store, turn}
use Rattle.entail_origins.specs.Origins.{Given, at_place, given_by}
use Rattle.entail_origins.specs.declared.hypothesis_origin.Origin.{Origin}
use Rattle.entail_origins.specs.declared.hypothesis_origin.HypothesisSource.{HypothesisSource}
use Rattle.entail_origins.specs.declared.hypothesis_origin.HypothesisSource.TheVariants as by
use Rattle.statement_paths.specs.Paths.{Step, passed, yes, no, head, place_of}
use Rattle.point_law.specs.Terms.{each_variable}
use Rattle.entail_losses.specs.declared.left_out_found.LeftOut as declared
use Rattle.entail_losses.specs.declared.left_out_found.TheConstants.{MOST_FOUND}
use Rattle.entail_losses.specs.declared.left_out_states.StateAt.{StateAt}
use Rattle.entail_losses.specs.declared.left_out_states.StateKind.{StateKind}
use Rattle.entail_losses.specs.declared.left_out_states.StateKind.TheVariants.{Join, Inv, Note}
use Rattle.entail_losses.specs.declared.left_out_states.States.{States}

-- What a step touches ------------------------------------------------------------------------------------------

-- a set without some numbers
abbrev pub without_all : List Bool → List ℕ → List Bool
without_all marks [] = marks
without_all marks (x ∷ xs) = without_all (set marks x false) xs

-- the variable of a store, where stores count
abbrev pub stored_by : (stores : Bool) → Option Store → List ℕ
stored_by stores None = []
stored_by stores (Some k) = if stores then k.variable ∷ [] else []

-- the variables that a lock lists
abbrev pub listed : Lock → List ℕ
listed l = l.nowrite ++ l.hide

-- those under a lock, if there is one
abbrev pub all_under : Plain → Option ℕ → List ℕ
all_under p None = []
all_under p (Some l) = listed (lock_at p l)

-- of a program, where stores count beside locks, or don't
module _ (p : Plain) (stores : Bool) where
  -- What a statement touches by its own parts: a store its variable, and a lock that is taken or given back all that are under it.
  abbrev pub own_touched : Parts → List ℕ
  own_touched ps = stored_by stores ps.store ++ (all_under p ps.taken ++ all_under p ps.returned)

  -- what a statement that is passed touches, also in its blocks
  abbrev pub touched : Stm → List ℕ
  touched s = collected own_touched s

  -- the same of the statements of a block
  abbrev pub touched_in : Block → List ℕ
  touched_in b = collected_in own_touched b

  -- what a step leaves of a set of variables
  abbrev pub untouched_by : Step → List Bool → List Bool
  untouched_by (passed at s) marks = without_all marks (touched s)
  untouched_by (yes at e) marks = marks
  untouched_by (no at e) marks = marks
  untouched_by (head at inv) marks = marks

-- States on the way --------------------------------------------------------------------------------------------

abbrev pub state_at : StateKind → (at : ℕ) → StateAt
state_at kind at = record { kind = kind; at = at }

-- of what a state is, by the blocks of the statement that has it
abbrev pub kind_of_state : Nested → StateKind
kind_of_state none = Note
kind_of_state (turn b) = Inv
kind_of_state (either a b) = Join

-- the state of a statement that is passed, if it has one
abbrev pub state_of_statement : (at : ℕ) → Stm → Option StateAt
state_of_statement at s = option_map (λ j. state_at (kind_of_state (parts s).nested) at) (parts s).state

-- the state of a step, if it has one
abbrev pub state_of_step : Step → Option StateAt
state_of_step (passed at s) = state_of_statement at s
state_of_step (yes at e) = None
state_of_step (no at e) = None
state_of_step (head at inv) = Some (state_at Inv at)

-- the last of some states, if there are some
abbrev pub last_state : Option States → Option StateAt
last_state None = None
last_state (Some states) = option_or states.last (Some states.first)

-- states, and one more in front, if there is one
abbrev pub states_from : Option StateAt → Option States → Option States
states_from None behind = behind
states_from (Some state) behind = Some (record { first = state; last = last_state behind })

-- the states of steps, if some have one: the first, and the last, where there are more
abbrev pub states_of_steps : List Step → Option States
states_of_steps [] = None
states_of_steps (s ∷ ss) = states_from (state_of_step s) (states_of_steps ss)

-- What is left out ---------------------------------------------------------------------------------------------

-- a predicate that was left out, with what gives it, and the first state behind that, which doesn't list it; where further states come behind that, with the last
pub record LeftOut : Type 0 where
  pub term : Term
  pub origin : Origin
  pub state : StateAt
  pub last : Option StateAt

abbrev pub left_out_at : (at : ℕ) → States → Given → LeftOut
left_out_at at states g = record { term = g.term; origin = at_place at g.source; state = states.first; last = states.last }

-- the states that are told of one
abbrev pub states_of : LeftOut → States
states_of o = record { first = o.state; last = o.last }

-- What is known of steps to a point.
pub record Search : Type 0 where
  -- the variables that are stable at the point and that none of the steps touches
  pub kept : List Bool
  -- their states
  pub states : Option States
  -- what was left out, found from the point back
  pub found : List LeftOut

-- at the point itself, where these variables are stable
abbrev pub search_at_point : (stable : List Bool) → Search
search_at_point stable = record { kept = stable; states = None; found = [] }

-- whether a variable is given a value over itself
abbrev pub is_own_value : Term → (value : Term) → Bool
is_own_value (const k) e = false
is_own_value (var x) e = mentions e x
is_own_value (neg a) e = false
is_own_value (bin op a b) e = false

abbrev pub is_own : Term → Bool
is_own (bin Eq a b) = is_own_value a b
is_own e = false

-- An assignment of a value over the variable itself, as `x := x + 1`, gives no equation.
abbrev pub gives_nothing : HypothesisSource → Term → Bool
gives_nothing by.Assigned e = is_own e
gives_nothing source e = false

-- of a point with these hypotheses
module _ (hypotheses : List Term) where
  -- whether a predicate is a hypothesis, or both sides of an `&&` are known
  abbrev pub is_known : Term → Bool
  is_known (bin Both a b) = has_term hypotheses (bin Both a b) || (is_known a && is_known b)
  is_known e = has_term hypotheses e

  -- Whether a predicate was left out in front of steps that keep these variables: it has a variable, each is kept, and it is neither
  -- known nor found already. Of more than a few the others aren't shown.
  abbrev pub is_left_out : (kept : List Bool) → (found : List LeftOut) → Term → Bool
  is_left_out kept found e =
      nat_lt (length found) MOST_FOUND && not (is_closed e) && each_variable (has kept) e && not (is_known e) && not (has_term (map (λ o. o.term) found) e)

  -- what was found, and a predicate that the step at a place gives, if it was left out
  abbrev pub with_given : (kept : List Bool) → (at : ℕ) → States → Given → (found : List LeftOut) → List LeftOut
  with_given kept at states g found = if not (gives_nothing g.source g.term) && is_left_out kept found g.term then found ++ left_out_at at states g ∷ [] else found

  abbrev pub with_each : (kept : List Bool) → (at : ℕ) → States → List Given → (found : List LeftOut) → List LeftOut
  with_each kept at states [] found = found
  with_each kept at states (g ∷ gs) found = with_each kept at states gs (with_given kept at states g found)

-- of a point of a program with these hypotheses
module _ (p : Plain) (hypotheses : List Term) where
  -- what was found, and what a step gives that a state behind it left out; where no state comes behind it, nothing was
  abbrev pub with_step : (kept : List Bool) → Step → Option States → (found : List LeftOut) → List LeftOut
  with_step kept s None found = found
  with_step kept s (Some states) found = with_each hypotheses kept (place_of s) states (given_by p s) found

  -- with one step more in front
  abbrev pub search_with_step : Step → Search → Search
  search_with_step s b = record {
    kept = untouched_by p true s b.kept;
    states = states_from (state_of_step s) b.states;
    found = with_step b.kept s b.states b.found;
  }

  abbrev pub search_along : (stable : List Bool) → List Step → Search
  search_along stable [] = search_at_point stable
  search_along stable (s ∷ ss) = search_with_step s (search_along stable ss)

  -- what was left out on the way to a point with these hypotheses, where these variables are stable
  abbrev pub left_out : (stable : List Bool) → List Step → List LeftOut
  left_out stable ss = (search_along stable ss).found

-- What the code has --------------------------------------------------------------------------------------------

abbrev pub seen : declared.LeftOut → LeftOut
seen o = record { term = term o.term; origin = o.origin; state = o.state; last = o.last }
