-- The point that is built behind steps is that to which the rules for statements lead.
use Rattle.std.proofs.Common.{◌≡◌, ℕ, List, [], ◌∷◌, Bool, true, false, Option, Some, None, option_map, refl, ap, subst, if◌then◌else◌}
use Rattle.std.specs.Prelude.{option_and_then}
use Rattle.cov_expr.specs.Term.{Term}
use Rattle.cov_ast.specs.Plain.{Plain}
use Rattle.cov_ast.specs.Syntax.{State, Stm, skip, assign, branch, Block, done, more}
use Rattle.typing_points.specs.Points.{after_step, after_steps, point_after_steps}
use Rattle.point_law.specs.After.{start, after_assign, with_guard, meet}
use Rattle.point_law.specs.Point.{Point, has_small_types}
use Rattle.statement_paths.specs.Paths.{Step, passed, yes, no, head}
use Rattle.typing_law.specs.Blocks.{after_block, after_stm, value_type}
use Rattle.typing_points.specs.PointsBehind.{assigned, behind_block, behind_step, behind_steps, behind_stm, has_few_conjuncts, if_small, point_behind}

-- what is there is this point
abbrev pub Is : Point → Option Point → Type 0
Is a None = Unit {0}
Is a (Some b) = b ≡ a

small_is : (a : Point) → Is a (if_small a)
small_is a = each (has_small_types a)
  where
    each : (b : Bool) → Is a (if b then Some a else None)
    each true = refl
    each false = tt

module _ (p : Plain) (t : ℕ) where
  assigned_is : (a : Point) (x : ℕ) (e : Term) (q : Option Term) (retypes : List (ℕ × Term))
      → Is (after_assign p t a x e (value_type p t a q e) retypes) (assigned p t a x e q retypes)
  assigned_is a x e q retypes = each (has_few_conjuncts p t a q e)
    where
      end : Point
      end = after_assign p t a x e (value_type p t a q e) retypes

      each : (b : Bool) → Is end (if b then if_small end else None)
      each true = small_is end
      each false = tt

  pub then_is : (o : Option Point) (a : Point) (f : Point → Option Point) (g : Point → Point) → Is a o → ((b : Point) → Is (g b) (f b)) → Is (g a) (option_and_then f o)
  then_is None a f g h each = tt
  then_is (Some b) a f g h each = subst (λ x. Is (g x) (f b)) h (each b)

  met_is : (o : Option Point) (a : Point) (join : State) → Is a o → Is (meet p t a join) (option_map (λ b. meet p t b join) o)
  met_is None a join h = tt
  met_is (Some b) a join h = ap (λ x. meet p t x join) h

  mutual
    stm_is : (s : Stm) (a : Point) → Is (after_stm p t s a) (behind_stm p t s a)
    stm_is skip a = refl
    stm_is (assign x e q retypes) a = assigned_is a x e q retypes
    stm_is (branch e first second join) a = met_is (behind_block p t first (with_guard p t a e)) (after_block p t first (with_guard p t a e)) join (block_is first (with_guard p t a e))
    stm_is _ a = refl

    block_is : (b : Block) (a : Point) → Is (after_block p t b a) (behind_block p t b a)
    block_is done a = refl
    block_is (more at s proofs rest) a =
        then_is (behind_stm p t s a) (after_stm p t s a) (λ b. behind_block p t rest b) (λ b. after_block p t rest b) (stm_is s a) (λ b. block_is rest b)

  pub step_is : (s : Step) (a : Point) → Is (after_step p t s a) (behind_step p t s a)
  step_is (passed at s) a = stm_is s a
  step_is (yes at e) a = refl
  step_is (no at e) a = refl
  step_is (head at inv) a = refl

  steps_are : (ss : List Step) (a : Point) → Is (after_steps p t ss a) (behind_steps p t ss a)
  steps_are [] a = refl
  steps_are (s ∷ ss) a =
      then_is (behind_step p t s a) (after_step p t s a) (λ b. behind_steps p t ss b) (λ b. after_steps p t ss b) (step_is s a) (λ b. steps_are ss b)

-- the point behind steps
pub of_the_rules : (p : Plain) (t : ℕ) (steps : List Step) (a : Point) → point_behind p t steps ≡ Some a → a ≡ point_after_steps p t steps
of_the_rules p t steps a is = subst (Is (point_after_steps p t steps)) is (steps_are p t steps (start p t))
