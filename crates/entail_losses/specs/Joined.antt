-- The predicates that would be known at a point, had the join of a branch on the way to it listed them: those that both its blocks still give at their ends.
--
-- Steps still give a predicate at their end where one of them gives it, none behind that has a state, and none behind that touches a variable of it, as what
-- comes behind the branch doesn't either. So it is known at both ends, and behind the branch, did the join list it, and all the way to the point.
use Rattle.std.specs.Prelude.{ℕ, ◌&&◌, nat_lt, List, [], ◌∷◌, ◌++◌, length, map, Bool, true, not, is_some, if◌then◌else◌, Option}
use Rattle.cov_expr.specs.Term.{Term}
use Rattle.cov_expr.specs.Trees.{has_term, is_closed}
use Rattle.cov_expr.specs.View.{term}
use Rattle.cov_ast.specs.Plain.{Plain}
use Rattle.cov_ast.specs.Syntax.{Stm}
use Rattle.cov_ast.specs.Tables.{has}
use Rattle.statement_parts.specs.Parts.{either, Nested, none, parts, preds_of, turn}
use Rattle.entail_losses.specs.Forgotten.{untouched_along}
use Rattle.entail_losses.specs.LeftOut.{LeftOut, gives_nothing, is_known, last_state, state_at, states_of_steps}
use Rattle.entail_losses.specs.WouldBeKnown.{first_state}
use Rattle.entail_losses.specs.declared.joined_given.StillGiven as declared
use Rattle.entail_losses.specs.declared.joined_given.TheConstants.{MOST_GIVEN}
use Rattle.entail_losses.specs.declared.joined_found.TheConstants.{MOST_LEFT_OUT}
use Rattle.entail_losses.specs.declared.left_out_states.StateKind.TheVariants.{Join}
use Rattle.entail_losses.specs.declared.left_out_states.States.{States}
use Rattle.entail_origins.specs.Origins.{Given, at_place, given_by}
use Rattle.entail_origins.specs.declared.hypothesis_origin.Origin.{Origin}
use Rattle.point_law.specs.Terms.{each_variable}
use Rattle.statement_paths.specs.Paths.{Step, passed, yes, no, head, place_of, to_first_end, to_second_end}

-- What steps still give ----------------------------------------------------------------------------------------

-- a predicate with what gives it
pub record StillGiven : Type 0 where
  pub term : Term
  pub origin : Origin

abbrev pub given_at : (at : ℕ) → Given → StillGiven
given_at at g = record { term = g.term; origin = at_place at g.source }

-- whether what is given is over variables that are kept behind it, and few were found so far
abbrev pub is_still_given : (kept : List Bool) → Given → (found : List StillGiven) → Bool
is_still_given kept g found = nat_lt (length found) MOST_GIVEN && not (gives_nothing g.source g.term) && each_variable (has kept) g.term

-- what was found, and what the step at a place gives, if it is given still
abbrev pub with_one_given : (kept : List Bool) → (at : ℕ) → Given → (found : List StillGiven) → List StillGiven
with_one_given kept at g found = if is_still_given kept g found then found ++ given_at at g ∷ [] else found

abbrev pub with_still_given : (kept : List Bool) → (at : ℕ) → List Given → (found : List StillGiven) → List StillGiven
with_still_given kept at [] found = found
with_still_given kept at (g ∷ gs) found = with_still_given kept at gs (with_one_given kept at g found)

module _ (p : Plain) where
  -- of a step, where no state comes behind it
  abbrev pub with_still_of_step : (kept : List Bool) → Step → (is_behind_a_state : Bool) → (found : List StillGiven) → List StillGiven
  with_still_of_step kept s behind found = if behind then found else with_still_given kept (place_of s) (given_by p s) found

  -- what steps still give, from the last one back, where these variables are kept behind them
  abbrev pub still_given : (kept : List Bool) → List Step → List StillGiven
  still_given kept [] = []
  still_given kept (s ∷ ss) = with_still_of_step (untouched_along p true kept ss) s (is_some (first_state ss)) (still_given kept ss)

  abbrev pub still_terms : (kept : List Bool) → List Step → List Term
  still_terms kept ss = map (λ g. g.term) (still_given kept ss)

-- What a join leaves out ---------------------------------------------------------------------------------------

-- the join of the branch at a place, with the last state behind it, if there is one
abbrev pub from_join : (at : ℕ) → (behind : Option States) → States
from_join at behind = record { first = state_at Join at; last = last_state behind }

-- a predicate that such a join leaves out
abbrev pub unjoined : States → StillGiven → LeftOut
unjoined states g = record { term = g.term; origin = g.origin; state = states.first; last = states.last }

-- of a point with these hypotheses
module _ (hypotheses : List Term) where
  -- Whether a predicate that the first block of a branch still gives is one that its join left out: the second block gives it too, the join doesn't list it, and it has a
  -- variable, is neither known nor told already. Of more than a few the others aren't shown.
  abbrev pub is_unjoined : (second listed : List Term) → (found : List LeftOut) → Term → Bool
  is_unjoined second listed found e =
      nat_lt (length found) MOST_LEFT_OUT && not (is_closed e) && has_term second e && not (has_term listed e) && not (is_known hypotheses e)
      && not (has_term (map (λ o. o.term) found) e)

  -- what was found, and a predicate, if the join, which is the first of these states, left it out
  abbrev pub with_one_unjoined : (second listed : List Term) → States → StillGiven → (found : List LeftOut) → List LeftOut
  with_one_unjoined second listed states g found = if is_unjoined second listed found g.term then found ++ unjoined states g ∷ [] else found

  abbrev pub with_unjoined : (second listed : List Term) → States → List StillGiven → (found : List LeftOut) → List LeftOut
  with_unjoined second listed states [] found = found
  with_unjoined second listed states (g ∷ gs) found = with_unjoined second listed states gs (with_one_unjoined second listed states g found)

  module _ (p : Plain) where
    -- the same of a statement that is passed, behind which these variables are kept, and these states come, if it has two blocks
    abbrev pub with_blocks : Nested → (kept : List Bool) → (behind : Option States) → (at : ℕ) → Stm → (found : List LeftOut) → List LeftOut
    with_blocks none kept behind at s found = found
    with_blocks (turn b) kept behind at s found = found
    with_blocks (either a b) kept behind at s found =
        with_unjoined (still_terms p kept (to_second_end at s)) (preds_of (parts s).state) (from_join at behind) (still_given p kept (to_first_end at s)) found

    abbrev pub with_branch : (kept : List Bool) → (behind : Option States) → (at : ℕ) → Stm → (found : List LeftOut) → List LeftOut
    with_branch kept behind at s found = with_blocks (parts s).nested kept behind at s found

    abbrev pub with_joined_step : (kept : List Bool) → (behind : Option States) → Step → (found : List LeftOut) → List LeftOut
    with_joined_step kept behind (passed at s) found = with_branch kept behind at s found
    with_joined_step kept behind (yes at e) found = found
    with_joined_step kept behind (no at e) found = found
    with_joined_step kept behind (head at inv) found = found

    -- what was found otherwise, and what joins left out on the way to a point, where these variables are stable, found from the point back
    abbrev pub with_joined : (found : List LeftOut) → (stable : List Bool) → List Step → List LeftOut
    with_joined found stable [] = found
    with_joined found stable (s ∷ ss) = with_joined_step (untouched_along p true stable ss) (states_of_steps ss) s (with_joined found stable ss)

-- What the code has --------------------------------------------------------------------------------------------

abbrev pub seen : declared.StillGiven → StillGiven
seen g = record { term = term g.term; origin = g.origin }
