-- The steps to where an entailment of a well formed program is asked have ids in range.
use Rattle.std.proofs.Common.{◌≡◌, ◌<◌, ℕ, [], refl, length, Option, Some, None}
use Rattle.std.proofs.lemmas.List.Elements.{All-append, All-nil}
use Rattle.cov_ast.specs.Syntax.{Program, Stm}
use Rattle.cov_ast.specs.WellFormed.{IsStmInRange, IsWellFormed}
use Rattle.entail_origins.specs.Questions.{asked}
use Rattle.entail_origins.specs.declared.kinds.Asked.{Asked}
use Rattle.entail_origins.specs.declared.kinds.End.{End}
use Rattle.entail_origins.specs.declared.kinds.End.TheVariants as e
use Rattle.entail_origins.specs.declared.kinds.Question.{Question}
use Rattle.entail_origins.specs.declared.kinds.Question.TheVariants as q
use Rattle.mode_compat.specs.Compatible.{no_thread, numbered}
use Rattle.statement_paths.specs.Paths.{Way, way_to}
use Rattle.typing_points.proofs.Ranges.{AreAllInRange, body_end_in_range, first_end_in_range, found_in_range, head_in_range, second_end_in_range}
use Rattle.typing_points.specs.PointsBehind.{IsStepInRange}
use Rattle.entail_refused.specs.Sites.{IsSiteInRange, site_of, site_of_way, steps_to_end, steps_to_point}

module _ (vars locks : ℕ) where
  none_out_of_range : AreAllInRange vars locks []
  none_out_of_range = All-nil (IsStepInRange vars locks)

  to_end_in_range : (end : End) (at : ℕ) (s : Stm) → IsStmInRange vars locks s → AreAllInRange vars locks (steps_to_end end at s)
  to_end_in_range e.Here at s range = none_out_of_range
  to_end_in_range e.Entry at s range = none_out_of_range
  to_end_in_range e.FirstBlock at s range = first_end_in_range vars locks at s range
  to_end_in_range e.SecondBlock at s range = second_end_in_range vars locks at s range
  to_end_in_range e.Body at s range = body_end_in_range vars locks at s range

  to_point_in_range : (question : Question) (at : ℕ) (s : Stm) → IsStmInRange vars locks s → AreAllInRange vars locks (steps_to_point question at s)
  to_point_in_range q.Written at s range = none_out_of_range
  to_point_in_range (q.Shown x) at s range = none_out_of_range
  to_point_in_range (q.Controlled y) at s range = none_out_of_range
  to_point_in_range (q.Retyped z) at s range = none_out_of_range
  to_point_in_range (q.Invariant l) at s range = none_out_of_range
  to_point_in_range (q.Freed x) at s range = none_out_of_range
  to_point_in_range q.Guard at s range = none_out_of_range
  to_point_in_range q.HeadGuard at s range = head_in_range vars locks at s range
  to_point_in_range q.Printed at s range = none_out_of_range
  to_point_in_range (q.Predicate end i) at s range = to_end_in_range end at s range
  to_point_in_range (q.TypeOf end z) at s range = to_end_in_range end at s range

-- where an entailment is asked; n and m are how many variables and locks there are
pub site_in_range : (p : Program) (t place number n m : ℕ) → IsWellFormed p → t < length p.threads → length p.vars ≡ n → length p.locks ≡ m
    → IsSiteInRange n m (site_of p t place number)
site_in_range p t place number n m formed inside all_vars all_locks = by_way (way_to (numbered p t).body place) (asked p t place number) refl
  where
    by_way : (w : Option Way) (a : Option Asked) → way_to (numbered p t).body place ≡ w → IsSiteInRange n m (site_of_way place w a)
    by_way None a is = tt
    by_way (Some w) None is = tt
    by_way (Some w) (Some a) is =
        let found = found_in_range (length p.vars) (length p.locks) n m (numbered p t).body place w (formed.ids.of_threads t no_thread inside).body is all_vars all_locks in
        All-append (IsStepInRange n m) w.steps (steps_to_point a.question place w.stm) found.0 (to_point_in_range n m a.question place w.stm found.1)
