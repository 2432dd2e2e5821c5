-- The point behind steps, and further ones.
use Rattle.std.proofs.Common.{◌≡◌, ℕ, List, [], ◌∷◌, ◌++◌, refl}
use Rattle.cov_ast.specs.Plain.{Plain}
use Rattle.typing_points.specs.Points.{after_step, after_steps}
use Rattle.statement_paths.specs.Paths.{Step}
use Rattle.point_law.specs.Point.{Point}

module _ (p : Plain) (t : ℕ) where
  pub appended : (ss rs : List Step) (a : Point) → after_steps p t (ss ++ rs) a ≡ after_steps p t rs (after_steps p t ss a)
  appended [] rs a = refl
  appended (s ∷ ss) rs a = appended ss rs (after_step p t s a)
