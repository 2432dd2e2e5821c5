-- The locks along steps are those of the points of the rules.
use Rattle.std.proofs.Common.{◌≡◌, ℕ, List, [], ◌∷◌, refl, ap, ◌∙◌}
use Rattle.cov_ast.specs.Plain.{Plain}
use Rattle.cov_ast.specs.LocksAlong.{no_locks}
use Rattle.typing_points.specs.Points.{after_step, after_steps, point_after_steps}
use Rattle.point_law.specs.After.{start}
use Rattle.point_law.specs.Point.{Point}
use Rattle.statement_paths.specs.LocksHeld.{held_after, held_along}
use Rattle.statement_paths.specs.Paths.{head, no, passed, yes, Step}
use Rattle.statement_paths.proofs.HeldAtPoints.{after_held}

module _ (p : Plain) (t : ℕ) where
  behind_step : (s : Step) (a : Point) → held_after s a.held ≡ (after_step p t s a).held
  behind_step (passed at s) a = after_held p t s a
  behind_step (yes at e) a = refl
  behind_step (no at e) a = refl
  behind_step (head at inv) a = refl

  behind_steps : (steps : List Step) (a : Point) → held_along steps a.held ≡ (after_steps p t steps a).held
  behind_steps [] a = refl
  behind_steps (s ∷ ss) a = ap (held_along ss) (behind_step s a) ∙ behind_steps ss (after_step p t s a)

  pub same_locks : (steps : List Step) → held_along steps (no_locks p) ≡ (point_after_steps p t steps).held
  same_locks steps = behind_steps steps (start p t)
