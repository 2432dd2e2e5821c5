-- The point of a thread behind steps, by the rules for statements.
use Rattle.std.specs.Prelude.{ℕ, List, [], ◌∷◌}
use Rattle.cov_expr.specs.Term.{neg}
use Rattle.cov_ast.specs.Plain.{Plain}
use Rattle.statement_paths.specs.Paths.{Step, passed, yes, no, head}
use Rattle.typing_law.specs.Blocks.{after_stm}
use Rattle.point_law.specs.After.{start, with_guard, meet}
use Rattle.point_law.specs.Point.{Point}

module _ (p : Plain) (t : ℕ) where
  abbrev pub after_step : Step → Point → Point
  after_step (passed at s) a = after_stm p t s a
  after_step (yes at e) a = with_guard p t a e
  after_step (no at e) a = with_guard p t a (neg e)
  after_step (head at inv) a = meet p t a inv

  abbrev pub after_steps : List Step → Point → Point
  after_steps [] a = a
  after_steps (s ∷ ss) a = after_steps ss (after_step s a)

  -- the point behind steps from the start of the thread
  abbrev pub point_after_steps : List Step → Point
  point_after_steps ss = after_steps ss (start p t)
