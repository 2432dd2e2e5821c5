-- The goal of what is asked of a statement, by the types at the point of which is asked, and on which of them it depends.
use Rattle.std.specs.Prelude.{◌≡◌, ℕ, ◌-◌, List, get_or, map, Option, Some, None}
use Rattle.std.specs.List.{All}
use Rattle.cov_expr.specs.Term.{Term, const, neg}
use Rattle.cov_ast.specs.Declarations.{invariant_of}
use Rattle.cov_ast.specs.Plain.{Plain}
use Rattle.cov_ast.specs.Syntax.{Stm, branch, loop}
use Rattle.statement_parts.specs.Parts.{parts, preds_of, Store}
use Rattle.entail_origins.specs.Questions.{questions}
use Rattle.entail_origins.specs.declared.kinds.End.{End}
use Rattle.entail_origins.specs.declared.kinds.End.TheVariants as e
use Rattle.entail_origins.specs.declared.kinds.Question.{Question}
use Rattle.entail_origins.specs.declared.kinds.Question.TheVariants as q
use Rattle.typing_law.specs.Blocks.{after_block, value_type}
use Rattle.typing_law.specs.Entailments.{Entailment}
use Rattle.point_law.specs.After.{meet, with_guard}
use Rattle.point_law.specs.Point.{Point, ty, ty_var, type_at}
use Rattle.entail_origins.specs.AskedVariables.{assigned_value}

-- Of which point is asked ----------------------------------------------------------------------------------------

-- each from the point in front of the statement
module _ (p : Plain) (t : ℕ) where
  -- at the head of a loop
  abbrev pub at_head : Stm → Point → Point
  at_head (loop r inv b) a = meet p t a inv
  at_head s a = a

  -- at the ends of the blocks of a branch, and of that of a loop
  abbrev pub at_first_end : Stm → Point → Point
  at_first_end (branch r yes_block no_block join) a = after_block p t yes_block (with_guard p t a r)
  at_first_end s a = a

  abbrev pub at_second_end : Stm → Point → Point
  at_second_end (branch r yes_block no_block join) a = after_block p t no_block (with_guard p t a (neg r))
  at_second_end s a = a

  abbrev pub at_body_end : Stm → Point → Point
  at_body_end (loop r inv b) a = after_block p t b (with_guard p t (meet p t a inv) r)
  at_body_end s a = a

  -- where a state is to be met
  abbrev pub at_end : End → Stm → Point → Point
  at_end e.Here s a = a
  at_end e.Entry s a = a
  at_end e.FirstBlock s a = at_first_end s a
  at_end e.SecondBlock s a = at_second_end s a
  at_end e.Body s a = at_body_end s a

  -- the point of which a question asks
  abbrev pub asked_point : Question → Stm → Point → Point
  asked_point q.Written s a = a
  asked_point (q.Shown x) s a = a
  asked_point (q.Controlled y) s a = a
  asked_point (q.Retyped z) s a = a
  asked_point (q.Invariant l) s a = a
  asked_point (q.Freed x) s a = a
  asked_point q.Guard s a = a
  asked_point q.HeadGuard s a = at_head s a
  asked_point q.Printed s a = a
  asked_point (q.Predicate end i) s a = at_end end s a
  asked_point (q.TypeOf end z) s a = at_end end s a

  -- Goals ----------------------------------------------------------------------------------------------------------

  -- the type of an expression, if there is one
  abbrev pub type_of_any : Option Term → Point → Term
  type_of_any None a = const 0
  type_of_any (Some r) a = ty p t a r

  -- the type of what is stored, if something is
  abbrev pub stored_type : Option Store → Point → Term
  stored_type None a = const 0
  stored_type (Some k) a = value_type p t a k.written k.value

  -- the goal of a question, at the point of which it asks
  abbrev pub goal_of : Question → Stm → Point → Term
  goal_of q.Written s a = type_of_any (assigned_value s) a
  goal_of (q.Shown x) s a = stored_type (parts s).store a
  goal_of (q.Controlled y) s a = ty_var p t a y
  goal_of (q.Retyped z) s a = type_at a z
  goal_of (q.Invariant l) s a = invariant_of p l
  goal_of (q.Freed x) s a = type_at a x
  goal_of q.Guard s a = type_of_any (parts s).guard a
  goal_of q.HeadGuard s a = type_of_any (parts s).guard a
  goal_of q.Printed s a = type_of_any (parts s).printed a
  goal_of (q.Predicate end i) s a = get_or (preds_of (parts s).state) (i - 1) (const 0)
  goal_of (q.TypeOf end z) s a = type_at a z

  -- the goals of what is asked of a statement, from the point in front of it
  abbrev pub goals_of : Stm → Point → List Term
  goals_of s a = map (λ question. goal_of question s (asked_point question s a)) (questions p t a.held s)

abbrev pub goals : List Entailment → List Term
goals entailments = map (λ g. g.goal) entailments

-- What a goal depends on -----------------------------------------------------------------------------------------

-- two points have the same types of these variables
abbrev pub AgreeOnTypes : List ℕ → Point → Point → Type 0
AgreeOnTypes zs a b = All (λ z. type_at a z ≡ type_at b z) zs
