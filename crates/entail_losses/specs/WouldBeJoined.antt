-- A predicate that is known at the ends of both blocks of a branch, and would be known at a point behind it, had the join listed it, and each state since, by the
-- rules for statements.
use Rattle.std.specs.Prelude.{◌≡◌, ℕ, List, [], ◌∷◌, ◌++◌, false, IsTrue}
use Rattle.cov_expr.specs.Term.{Term}
use Rattle.cov_expr.specs.Trees.{has_term}
use Rattle.cov_ast.specs.LocksAlong.{no_locks}
use Rattle.cov_ast.specs.Plain.{Plain}
use Rattle.cov_ast.specs.Syntax.{Block, State, branch}
use Rattle.entail_losses.specs.LeftOut.{LeftOut, last_state, state_at, states_of_steps}
use Rattle.entail_losses.specs.WouldBeKnown.{StaysKnown, step_with}
use Rattle.entail_losses.specs.declared.left_out_states.StateKind.TheVariants.{Join}
use Rattle.typing_points.specs.Points.{point_after_steps}
use Rattle.statement_paths.specs.LocksHeld.{held_along, held_at_end}
use Rattle.statement_paths.specs.Paths.{Step, passed, to_first_end, to_second_end}

-- Of a point with these hypotheses: what a join left out is none of them, and the join, which is that of a branch on the way, doesn't list it. Where states come behind the branch, the
-- last is the one that is told. It is known at the end of the first block, and at that of the second, where the same locks are held there. Did the join list it, it would be known behind the branch, and all the way to the point, did each state behind that list it.
pub record WouldBeJoined (p : Plain) (t : ℕ) (steps : List Step) (hypotheses : List Term) (o : LeftOut) : Type 0 where
  pub unknown : has_term hypotheses o.term ≡ false
  pub front : List Step
  pub at : ℕ
  pub guard : Term
  pub first : Block
  pub second : Block
  pub join : State
  pub back : List Step
  pub parts : steps ≡ front ++ passed at (branch guard first second join) ∷ back
  pub state : o.state ≡ state_at Join at
  pub last : o.last ≡ last_state (states_of_steps back)
  pub unlisted : has_term join.preds o.term ≡ false
  pub at_first_end : IsTrue (has_term (point_after_steps p t (front ++ to_first_end at (branch guard first second join))).preds o.term)
  pub at_second_end : held_at_end first (held_along front (no_locks p)) ≡ held_at_end second (held_along front (no_locks p))
      → IsTrue (has_term (point_after_steps p t (front ++ to_second_end at (branch guard first second join))).preds o.term)
  pub stays : StaysKnown p t (front ++ step_with o.term (passed at (branch guard first second join)) ∷ []) back o.term
