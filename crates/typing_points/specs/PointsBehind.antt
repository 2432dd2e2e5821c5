-- The point behind steps of a thread's text, built step by step, as long as behind each assignment types have no more nodes than the rules let them have, and the
-- type of its value, where that isn't written, has at most 500 conjuncts.
use Rattle.std.specs.Prelude.{ℕ, List, [], ◌∷◌, length, Bool, true, nat_le, if◌then◌else◌, Option, Some, None, option_and_then, option_map}
use Rattle.cov_expr.specs.Term.{Term, neg}
use Rattle.cov_expr.specs.Trees.{vars}
use Rattle.cov_ast.specs.Plain.{Plain}
use Rattle.cov_ast.specs.Syntax.{State, Proof, Stm, Block}
use Rattle.cov_ast.specs.WellFormed.{IsExprInRange, IsStateInRange, IsStmInRange}
use Rattle.point_law.specs.After.{start, after_assign, with_guard, meet}
use Rattle.point_law.specs.Point.{Point, conjuncts_of_types, has_small_types}
use Rattle.statement_parts.specs.Parts.{Inside, made, made_inside, of_either, of_none, of_turn, parts, Store}
use Rattle.statement_paths.specs.Paths.{Step, passed, yes, no, head}
use Rattle.typing_law.specs.Blocks.{after_stm, value_type}
use Rattle.typing_points.specs.declared.passing.TheConstants.{MOST_CONJUNCTS}

-- a point whose types are small, and else none
abbrev pub if_small : Point → Option Point
if_small a = if has_small_types a then Some a else None

module _ (p : Plain) (t : ℕ) where
  -- whether the type of an assigned value is written, or has few conjuncts
  abbrev pub has_few_conjuncts : Point → Option Term → Term → Bool
  has_few_conjuncts a None e = nat_le (length (conjuncts_of_types p t a (vars e))) MOST_CONJUNCTS
  has_few_conjuncts a (Some q) e = true

  -- after an assignment
  abbrev pub assigned : Point → (x : ℕ) → Term → Option Term → (retypes : List (ℕ × Term)) → Option Point
  assigned a x e q retypes = if has_few_conjuncts a q e then if_small (after_assign p t a x e (value_type p t a q e) retypes) else None

  -- By what is behind the blocks inside a statement: behind a branch it goes by the end of its first block. Behind a statement that assigns nothing and has
  -- no two blocks it is the point of the rules.
  abbrev pub behind_inside : Stm → Option Store → Inside (Point → Option Point) → Point → Option Point
  behind_inside s (Some k) inside a = assigned a k.variable k.value k.written k.retypes
  behind_inside s None of_none a = Some (after_stm p t s a)
  behind_inside s None (of_turn e inv b) a = Some (after_stm p t s a)
  behind_inside s None (of_either e join first second) a = option_map (λ b. meet p t b join) (first (with_guard p t a e))

  abbrev pub behind_end : Point → Option Point
  behind_end a = Some a

  abbrev pub behind_first : (at : ℕ) → Stm → List Proof → Inside (Point → Option Point) → (rest : Point → Option Point) → Point → Option Point
  behind_first at s proofs inside rest a = option_and_then rest (behind_inside s (parts s).store inside a)

  -- the point behind a statement
  abbrev pub behind_stm : Stm → Point → Option Point
  behind_stm s a = behind_inside s (parts s).store (made_inside behind_end behind_first s) a

  -- the point behind the statements of a block
  abbrev pub behind_block : Block → Point → Option Point
  behind_block b a = made behind_end behind_first b a

  -- the point behind a branch with this guard, first block and state, from that at the end of the block
  abbrev pub behind_branch : Term → Block → (join : State) → Point → Option Point
  behind_branch e first join a = option_map (λ b. meet p t b join) (behind_block first (with_guard p t a e))

  abbrev pub behind_step : Step → Point → Option Point
  behind_step (passed at s) a = behind_stm s a
  behind_step (yes at e) a = Some (with_guard p t a e)
  behind_step (no at e) a = Some (with_guard p t a (neg e))
  behind_step (head at inv) a = Some (meet p t a inv)

  abbrev pub behind_steps : List Step → Point → Option Point
  behind_steps [] a = Some a
  behind_steps (s ∷ ss) a = option_and_then (λ b. behind_steps ss b) (behind_step s a)

  -- the point behind steps from the start of the thread; none where a type on the way is too large
  abbrev pub point_behind : List Step → Option Point
  point_behind ss = behind_steps ss (start p t)

-- What a step is about has ids in range.
abbrev pub IsStepInRange : (vars locks : ℕ) → Step → Type 0
IsStepInRange vars locks (passed at s) = IsStmInRange vars locks s
IsStepInRange vars locks (yes at e) = IsExprInRange vars locks e
IsStepInRange vars locks (no at e) = IsExprInRange vars locks e
IsStepInRange vars locks (head at inv) = IsStateInRange vars locks inv
