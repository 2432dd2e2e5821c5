-- Behind the steps of a site stands the point of which its question asks, by the rules of types.
use Rattle.std.proofs.Common.{◌≡◌, ℕ, List, refl, ◌∙◌}
use Rattle.cov_expr.specs.Term.{neg}
use Rattle.cov_ast.specs.Plain.{Plain}
use Rattle.cov_ast.specs.Syntax.{Stm, skip, branch, loop, Block, done, more}
use Rattle.entail_origins.specs.declared.kinds.End.{End}
use Rattle.entail_origins.specs.declared.kinds.End.TheVariants as e
use Rattle.entail_origins.specs.declared.kinds.Question.{Question}
use Rattle.entail_origins.specs.declared.kinds.Question.TheVariants as q
use Rattle.typing_points.proofs.PointLaws.{appended}
use Rattle.typing_points.specs.Points.{after_steps, point_after_steps}
use Rattle.statement_paths.specs.Paths.{Step, passed_all, to_body_end, to_first_end, to_head, to_second_end}
use Rattle.entail_origins.specs.GoalTypes.{asked_point, at_body_end, at_end, at_first_end, at_head, at_second_end}
use Rattle.typing_law.specs.Blocks.{after_block, after_stm}
use Rattle.point_law.specs.After.{meet, start, with_guard}
use Rattle.point_law.specs.Point.{Point}
use Rattle.entail_refused.specs.Sites.{site_at, steps_to_end, steps_to_point}

module _ (p : Plain) (t : ℕ) where
  -- past each statement of a block
  pub past_block : (b : Block) (a : Point) → after_steps p t (passed_all b) a ≡ after_block p t b a
  past_block done a = refl
  past_block (more at s proofs rest) a = past_block rest (after_stm p t s a)

  to_the_head : (at : ℕ) (s : Stm) (a : Point) → after_steps p t (to_head at s) a ≡ at_head p t s a
  to_the_head at skip a = refl
  to_the_head at _ a = refl

  to_the_first_end : (at : ℕ) (s : Stm) (a : Point) → after_steps p t (to_first_end at s) a ≡ at_first_end p t s a
  to_the_first_end at skip a = refl
  to_the_first_end at (branch r yes_block no_block join) a = past_block yes_block (with_guard p t a r)
  to_the_first_end at _ a = refl

  to_the_second_end : (at : ℕ) (s : Stm) (a : Point) → after_steps p t (to_second_end at s) a ≡ at_second_end p t s a
  to_the_second_end at skip a = refl
  to_the_second_end at (branch r yes_block no_block join) a = past_block no_block (with_guard p t a (neg r))
  to_the_second_end at _ a = refl

  to_the_body_end : (at : ℕ) (s : Stm) (a : Point) → after_steps p t (to_body_end at s) a ≡ at_body_end p t s a
  to_the_body_end at skip a = refl
  to_the_body_end at (loop r inv b) a = past_block b (with_guard p t (meet p t a inv) r)
  to_the_body_end at _ a = refl

  to_the_end : (end : End) (at : ℕ) (s : Stm) (a : Point) → after_steps p t (steps_to_end end at s) a ≡ at_end p t end s a
  to_the_end e.Here at s a = refl
  to_the_end e.Entry at s a = refl
  to_the_end e.FirstBlock at s a = to_the_first_end at s a
  to_the_end e.SecondBlock at s a = to_the_second_end at s a
  to_the_end e.Body at s a = to_the_body_end at s a

  pub to_the_point : (question : Question) (at : ℕ) (s : Stm) (a : Point) → after_steps p t (steps_to_point question at s) a ≡ asked_point p t question s a
  to_the_point q.Written at s a = refl
  to_the_point (q.Shown x) at s a = refl
  to_the_point (q.Controlled y) at s a = refl
  to_the_point (q.Retyped z) at s a = refl
  to_the_point (q.Invariant l) at s a = refl
  to_the_point (q.Freed x) at s a = refl
  to_the_point q.Guard at s a = refl
  to_the_point q.HeadGuard at s a = to_the_head at s a
  to_the_point q.Printed at s a = refl
  to_the_point (q.Predicate end i) at s a = to_the_end end at s a
  to_the_point (q.TypeOf end z) at s a = to_the_end end at s a

  pub at_the_point : (steps : List Step) (question : Question) (at : ℕ) (s : Stm)
      → point_after_steps p t (site_at steps question at s).steps ≡ asked_point p t question s (point_after_steps p t steps)
  at_the_point steps question at s = appended p t steps (steps_to_point question at s) (start p t) ∙ to_the_point question at s (point_after_steps p t steps)
