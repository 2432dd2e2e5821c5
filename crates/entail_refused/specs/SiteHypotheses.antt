-- What an entailment asks: whether the goal of the question at its site follows from the predicates of the point there, by the rules for
-- statements, and from one expression more where the question has one.
--
-- So what is told of that point, as where its hypotheses and the types of its goal come from and what was left out on the way, is told of the
-- hypotheses and the goal of the entailment.
use Rattle.std.specs.Prelude.{◌≡◌, ℕ, Some}
use Rattle.cov_ast.specs.Plain.{plain}
use Rattle.cov_ast.specs.Syntax.{Program}
use Rattle.typing_points.specs.Points.{point_after_steps}
use Rattle.entail_origins.specs.AskedHypotheses.{AreOf, asks_more}
use Rattle.entail_origins.specs.GoalTypes.{goal_of}
use Rattle.typing_law.specs.ThreadEntailments.{PlacedEntailment}
use Rattle.entail_refused.specs.Sites.{Site, site_of}

-- An entailment of a thread, with this number at this place, has a site. Its hypotheses are the predicates of the point behind the steps to
-- it, with one expression more just where the question has one, and its goal is that of the question, of the statement there, at that point.
pub record IsOfSite (p : Program) (t place number : ℕ) (g : PlacedEntailment) : Type 0 where
  pub site : Site
  pub there : site_of p t place number ≡ Some site
  pub known : AreOf (asks_more site.question) (point_after_steps (plain p) t site.steps).preds g.entailment.hyps
  pub goal : g.entailment.goal ≡ goal_of (plain p) t site.question site.stm (point_after_steps (plain p) t site.steps)
