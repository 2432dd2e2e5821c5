-- The parts of predicates that would be known at a point, had a note on the way to it listed them in front of a store.
--
-- A store forgets each predicate that mentions its variable, as a whole. Of one that a step gives, and whose variables are stable at the point and since
-- that step, a part that `&&` joins and to whose variables no statement behind that step stores, also in a block, would be a hypothesis at the point, had a
-- note behind that step listed it, and each state since.
use Rattle.std.specs.Prelude.{ℕ, ◌&&◌, nat_lt, List, [], ◌∷◌, ◌++◌, length, map, Bool, true, false, not, if◌then◌else◌, Option}
use Rattle.cov_expr.specs.declared.expr.Op.TheVariants.{Both}
use Rattle.cov_expr.specs.Term.{Term, bin}
use Rattle.cov_expr.specs.Trees.{has_term, is_closed}
use Rattle.cov_expr.specs.View.{term}
use Rattle.cov_ast.specs.Plain.{Plain}
use Rattle.cov_ast.specs.Tables.{has}
use Rattle.entail_losses.specs.LeftOut.{LeftOut, is_known, untouched_by}
use Rattle.entail_origins.specs.Origins.{Given, at_place, given_by}
use Rattle.entail_losses.specs.WouldBeKnown.{first_state}
use Rattle.entail_losses.specs.declared.forgotten_found.ForgottenPart as declared
use Rattle.entail_origins.specs.declared.hypothesis_origin.Origin.{Origin}
use Rattle.entail_losses.specs.declared.left_out_found.TheConstants.{MOST_FOUND}
use Rattle.entail_losses.specs.declared.left_out_states.StateAt.{StateAt}
use Rattle.point_law.specs.Terms.{each_variable}
use Rattle.statement_paths.specs.Paths.{Step, place_of}

-- a part that a store forgot, with what gives the whole, and the first state behind that, if there is one
pub record ForgottenPart : Type 0 where
  pub part : Term
  pub origin : Origin
  pub state : Option StateAt

abbrev pub forgotten_at : Origin → Option StateAt → (part : Term) → ForgottenPart
forgotten_at origin state e = record { part = e; origin = origin; state = state }

-- Sets of variables --------------------------------------------------------------------------------------------

-- what steps leave of the variables that are stable behind them, where stores count beside locks, or don't
abbrev pub untouched_along : Plain → (stores : Bool) → (stable : List Bool) → List Step → List Bool
untouched_along p stores stable [] = stable
untouched_along p stores stable (s ∷ ss) = untouched_by p stores s (untouched_along p stores stable ss)

-- What is forgotten --------------------------------------------------------------------------------------------

-- of a point with these hypotheses, where these predicates were left out
module _ (hypotheses : List Term) (left_out : List LeftOut) where
  -- Whether a part was forgotten in front of steps that keep these variables: it has a variable, each is kept, and it is neither known nor
  -- told already. Of more than a few the others aren't shown.
  abbrev pub is_forgotten : (kept : List Bool) → (found : List ForgottenPart) → Term → Bool
  is_forgotten kept found e =
      nat_lt (length found) MOST_FOUND && not (is_closed e) && each_variable (has kept) e && not (is_known hypotheses e)
      && not (has_term (map (λ o. o.term) left_out) e) && not (has_term (map (λ f. f.part) found) e)

  -- what was found, and a part, if it was forgotten
  abbrev pub with_part : (kept : List Bool) → Origin → Option StateAt → Term → (found : List ForgottenPart) → List ForgottenPart
  with_part kept origin state e found = if is_forgotten kept found e then found ++ forgotten_at origin state e ∷ [] else found

  -- the same of each part
  abbrev pub with_parts : (kept : List Bool) → Origin → Option StateAt → Term → (found : List ForgottenPart) → List ForgottenPart
  with_parts kept origin state (bin Both a b) found = with_parts kept origin state b (with_parts kept origin state a found)
  with_parts kept origin state e found = with_part kept origin state e found

  -- The same of a predicate that the step at a place gives, where a store since touches the whole, and no lock does: each of its variables is
  -- steady, but not each is kept, and it isn't known. A state may have left it out before.
  abbrev pub with_whole : (steady kept : List Bool) → (at : ℕ) → Option StateAt → Given → (found : List ForgottenPart) → List ForgottenPart
  with_whole steady kept at state g found =
      if each_variable (has steady) g.term && not (each_variable (has kept) g.term) && not (is_known hypotheses g.term)
      then with_parts kept (at_place at g.source) state g.term found
      else found

  abbrev pub with_wholes : (steady kept : List Bool) → (at : ℕ) → Option StateAt → List Given → (found : List ForgottenPart) → List ForgottenPart
  with_wholes steady kept at state [] found = found
  with_wholes steady kept at state (g ∷ gs) found = with_wholes steady kept at state gs (with_whole steady kept at state g found)

  -- What was forgotten on the way to a point, where these variables are stable, found from the point back.
  abbrev pub forgotten_parts : Plain → (stable : List Bool) → List Step → List ForgottenPart
  forgotten_parts p stable [] = []
  forgotten_parts p stable (s ∷ ss) =
      with_wholes (untouched_along p false stable ss) (untouched_along p true stable ss) (place_of s) (first_state ss) (given_by p s) (forgotten_parts p stable ss)

-- What the code has --------------------------------------------------------------------------------------------

abbrev pub seen : declared.ForgottenPart → ForgottenPart
seen f = record { part = term f.part; origin = f.origin; state = f.state }
