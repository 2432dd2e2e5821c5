-- A part of a predicate that would be known at a point, had a note on the way to it listed the part, and each state since, by the rules for statements.
use Rattle.std.specs.Prelude.{◌≡◌, ℕ, List, [], ◌∷◌, ◌++◌, false, IsTrue}
use Rattle.std.specs.List.{Contains}
use Rattle.cov_expr.specs.Term.{Term}
use Rattle.cov_expr.specs.Trees.{has_conjunct, has_term}
use Rattle.cov_ast.specs.Plain.{Plain}
use Rattle.cov_ast.specs.Syntax.{State, note}
use Rattle.entail_losses.specs.Forgotten.{ForgottenPart}
use Rattle.entail_origins.specs.Origins.{given, given_by}
use Rattle.typing_points.specs.Points.{point_after_steps}
use Rattle.entail_losses.specs.WouldBeKnown.{StaysKnown, first_state}
use Rattle.statement_paths.specs.Paths.{Step, passed, place_of}

-- Of a point with these hypotheses: what was forgotten is none of them. One of the steps to the point is at the place of the origin and gives the whole
-- by its source, and behind that step the whole is known, so that a note there may list the part. The first state behind it is the one that is named. With
-- such a note directly behind that step the part would be known behind the note, and all the way to the point, did each state behind it list it.
pub record WouldBeKept (p : Plain) (t : ℕ) (steps : List Step) (hypotheses : List Term) (f : ForgottenPart) : Type 0 where
  pub unknown : has_term hypotheses f.part ≡ false
  pub front : List Step
  pub step : Step
  pub back : List Step
  pub parts : steps ≡ front ++ step ∷ back
  pub placed : place_of step ≡ f.origin.at
  pub whole : Term
  pub is_part : IsTrue (has_conjunct whole f.part)
  pub gives : Contains (given_by p step) (given f.origin.source whole)
  pub whole_known : IsTrue (has_term (point_after_steps p t (front ++ step ∷ [])).preds whole)
  pub first : first_state back ≡ f.state
  pub stays : (at : ℕ) → (j : State) → IsTrue (has_term j.preds f.part) → StaysKnown p t (front ++ step ∷ passed at (note j) ∷ []) back f.part
