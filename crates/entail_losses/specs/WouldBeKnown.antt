-- A predicate that would be known at a point, had the states on the way to it listed it, by the rules for statements.
--
-- A branch, a loop and a note forget each predicate that their state doesn't list, and what it lists has to follow: of a note, and of a loop before
-- its first turn, from what is known in front. So there one that is known may be listed. Whether it follows at the ends of blocks isn't looked at.
use Rattle.std.specs.Prelude.{◌≡◌, ℕ, List, [], ◌∷◌, ◌++◌, false, IsTrue, Option, Some, None, map, option_map}
use Rattle.std.specs.List.{Contains}
use Rattle.std.specs.Option.{option_or}
use Rattle.cov_expr.specs.Term.{Term}
use Rattle.cov_expr.specs.Trees.{has_term}
use Rattle.cov_ast.specs.Plain.{Plain}
use Rattle.cov_ast.specs.Syntax.{State, Stm, branch, loop, note}
use Rattle.statement_parts.specs.Parts.{either, Nested, none, parts, preds_of, turn}
use Rattle.entail_origins.specs.Origins.{given, given_by}
use Rattle.typing_points.specs.Points.{point_after_steps}
use Rattle.statement_paths.specs.Paths.{Step, passed, yes, no, head, place_of}
use Rattle.entail_losses.specs.LeftOut.{LeftOut, state_of_step, states_of, states_of_steps}
use Rattle.entail_losses.specs.declared.left_out_states.StateAt.{StateAt}

-- States that list a predicate more ------------------------------------------------------------------------------

abbrev pub state_with : Term → State → State
state_with e j = record j { preds = j.preds ++ e ∷ [] }

-- A statement with these blocks and this guard, where this is stated in the place of what it states. One that states nothing stays as it is.
abbrev pub restated : Nested → (guard : Option Term) → Option State → Stm → Stm
restated none guard (Some j) s = note j
restated (turn b) (Some g) (Some j) s = loop g j b
restated (either a b) (Some g) (Some j) s = branch g a b j
restated nested guard j s = s

-- a branch with it in its join, a loop in its `inv`, a note in its state; the statements in blocks stay as they are
abbrev pub stm_with : Term → Stm → Stm
stm_with e s = restated (parts s).nested (parts s).guard (option_map (state_with e) (parts s).state) s

abbrev pub step_with : Term → Step → Step
step_with e (passed at s) = passed at (stm_with e s)
step_with e (yes at g) = yes at g
step_with e (no at g) = no at g
step_with e (head at inv) = head at (state_with e inv)

-- the same steps, where each state lists it
abbrev pub listing : Term → List Step → List Step
listing e steps = map (step_with e) steps

-- The states of steps --------------------------------------------------------------------------------------------

-- the first
abbrev pub first_state : List Step → Option StateAt
first_state [] = None
first_state (s ∷ ss) = option_or (state_of_step s) (first_state ss)

-- the predicates that a statement lists in its state
abbrev pub predicates_of_statement : Stm → List Term
predicates_of_statement s = preds_of (parts s).state

abbrev pub predicates_of_step : Step → List Term
predicates_of_step (passed at s) = predicates_of_statement s
predicates_of_step (yes at g) = []
predicates_of_step (no at g) = []
predicates_of_step (head at inv) = inv.preds

-- the predicates that the states of steps list
abbrev pub listed_by : List Step → List Term
listed_by [] = []
listed_by (s ∷ ss) = predicates_of_step s ++ listed_by ss

-- What would be known --------------------------------------------------------------------------------------------

-- A predicate is known behind steps of a thread and behind each one that follows, where the states of these list it.
abbrev pub StaysKnown : Plain → (t : ℕ) → (front back : List Step) → Term → Type 0
StaysKnown p t front back e =
    (so_far rest : List Step) → back ≡ so_far ++ rest → IsTrue (has_term (point_after_steps p t (front ++ listing e so_far)).preds e)

-- each predicate of a list is in another one
abbrev pub AreAmong : (es fs : List Term) → Type 0
AreAmong es fs = (e : Term) → IsTrue (has_term es e) → IsTrue (has_term fs e)

-- Of a point with these hypotheses: what was left out is none of them. One of the steps to the point is at the place of the origin and gives it by
-- its source. The first state behind that step is the one that is named, and where there are more, the last is. Where all that is known at the point is among the
-- hypotheses, no state behind that step lists the predicate. It is known behind that step, and would be all the way to the point, did each state behind it list it.
pub record WouldBeKnown (p : Plain) (t : ℕ) (steps : List Step) (hypotheses : List Term) (o : LeftOut) : Type 0 where
  pub unknown : has_term hypotheses o.term ≡ false
  pub front : List Step
  pub step : Step
  pub back : List Step
  pub parts : steps ≡ front ++ step ∷ back
  pub placed : place_of step ≡ o.origin.at
  pub gives : Contains (given_by p step) (given o.origin.source o.term)
  pub first : first_state back ≡ Some o.state
  pub states : states_of_steps back ≡ Some (states_of o)
  pub unlisted : AreAmong (point_after_steps p t steps).preds hypotheses → has_term (listed_by back) o.term ≡ false
  pub stays : StaysKnown p t (front ++ step ∷ []) back o.term
