-- Where an entailment for which a program is refused is asked: the way to the point from whose predicates it is to follow.
use Rattle.std.specs.Prelude.{ℕ, List, [], ◌++◌, map, All, Option, Some, None}
use Rattle.cov_ast.specs.Syntax.{Stm, Program}
use Rattle.cov_ast.specs.View as view
use Rattle.entail_origins.specs.Questions.{asked}
use Rattle.entail_origins.specs.declared.kinds.Asked.{Asked}
use Rattle.entail_origins.specs.declared.kinds.End.{End}
use Rattle.entail_origins.specs.declared.kinds.End.TheVariants as e
use Rattle.entail_origins.specs.declared.kinds.Question.{Question}
use Rattle.entail_origins.specs.declared.kinds.Question.TheVariants as q
use Rattle.mode_compat.specs.Compatible.{numbered}
use Rattle.statement_paths.specs.Paths.{Step, Way, step, to_body_end, to_first_end, to_head, to_second_end, way_to}
use Rattle.typing_points.specs.PointsBehind.{IsStepInRange}
use Rattle.entail_refused.specs.declared.site.Site as declared

-- From the statement at a place ---------------------------------------------------------------------------------

-- the steps to where a state is to be met
abbrev pub steps_to_end : End → (at : ℕ) → Stm → List Step
steps_to_end e.Here at s = []
steps_to_end e.Entry at s = []
steps_to_end e.FirstBlock at s = to_first_end at s
steps_to_end e.SecondBlock at s = to_second_end at s
steps_to_end e.Body at s = to_body_end at s

-- the steps to the point from whose predicates an entailment is to follow
abbrev pub steps_to_point : Question → (at : ℕ) → Stm → List Step
steps_to_point q.Written at s = []
steps_to_point (q.Shown x) at s = []
steps_to_point (q.Controlled y) at s = []
steps_to_point (q.Retyped z) at s = []
steps_to_point (q.Invariant l) at s = []
steps_to_point (q.Freed x) at s = []
steps_to_point q.Guard at s = []
steps_to_point q.HeadGuard at s = to_head at s
steps_to_point q.Printed at s = []
steps_to_point (q.Predicate end i) at s = steps_to_end end at s
steps_to_point (q.TypeOf end z) at s = steps_to_end end at s

-- Where it is asked --------------------------------------------------------------------------------------------

-- the steps from the start of the thread to the point, what is asked there, and the statement
pub record Site : Type 0 where
  pub steps : List Step
  pub question : Question
  pub stm : Stm

-- of a statement at a place behind steps
abbrev pub site_at : List Step → Question → (at : ℕ) → Stm → Site
site_at steps question at s = record { steps = steps ++ steps_to_point question at s; question = question; stm = s }

-- where this is the way to the statement, and this is asked there
abbrev pub site_of_way : (at : ℕ) → Option Way → Option Asked → Option Site
site_of_way at (Some w) (Some a) = Some (site_at w.steps a.question at w.stm)
site_of_way at w a = None

-- of the entailment with a number, of those of the statement at a place of a thread
abbrev pub site_of : Program → (t place number : ℕ) → Option Site
site_of p t place number = site_of_way place (way_to (numbered p t).body place) (asked p t place number)

-- what the code has
abbrev pub site : declared.Site → Site
site s = record { steps = map step s.steps; question = s.question; stm = view.kind s.kind.now }

-- What the steps to where something is asked are about has ids in range, if it is known where that is.
abbrev pub IsSiteInRange : (vars locks : ℕ) → Option Site → Type 0
IsSiteInRange vars locks None = Unit {0}
IsSiteInRange vars locks (Some s) = All (IsStepInRange vars locks) s.steps
