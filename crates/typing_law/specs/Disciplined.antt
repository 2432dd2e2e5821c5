-- What every run of an accepted program keeps, from any memory and under every schedule: each thread holds the locks that
-- its text says, evaluates narrow expressions that read at most one word that others may write, and leaves alone what is
-- stable for others. A compiler can rest on it.
use Rattle.std.specs.Prelude.{◌≢◌, ℕ, ◌<◌, ◌≤◌, ◌==◌, List, [], ◌∷◌, ◌++◌, Bool, length, find, AllPairs}
use Rattle.std.specs.Prelude.{Option, Some, None}
use Rattle.std.specs.Option.{ForSome}
use Rattle.cov_expr.specs.Term.{Term, neg}
use Rattle.cov_expr.specs.Trees.{occurrences, width}
use Rattle.cov_expr.specs.Words.{IsMemory, IsSchedule}
use Rattle.cov_ast.specs.Plain.{Plain, plain}
use Rattle.cov_ast.specs.Syntax.{Proof, Stm, Block, Program}
use Rattle.statement_parts.specs.Parts.{Inside, of_none, of_turn, of_either, made_inside, made}
use Rattle.statement_parts.specs.PlainParts.{parts}
use Rattle.flow_model.specs.Source.{Item, run, put, test, emit, Holders, Run, items_of, place_of, step, after}
use Rattle.flow_model.specs.Holdings.{IsStableNow}
use Rattle.flow_model.specs.Agreement.{SameAt}
use Rattle.mode_compat.specs.Compatible.{numbered}
use Rattle.mode_compat.specs.HeldSets.{AreHeldBy}
use Rattle.point_law.specs.Point.{Point}
use Rattle.point_law.specs.After.{start, with_guard, meet}
use Rattle.typing_law.specs.Blocks.{after_stm}

-- Locks along the text -------------------------------------------------------------------------------------------

module _ (p : Plain) (t : ℕ) where
  -- those of the blocks inside a statement, by the point before it
  abbrev pub points_inside : Inside (Point → List (ℕ × Point)) → Point → List (ℕ × Point)
  points_inside of_none a = []
  points_inside (of_turn e inv of_body) a = of_body (with_guard p t (meet p t a inv) e)
  points_inside (of_either e join of_first of_second) a = of_first (with_guard p t a e) ++ of_second (with_guard p t a (neg e))

  abbrev pub points_in_front : (at : ℕ) → Stm → List Proof → Inside (Point → List (ℕ × Point)) → (rest : Point → List (ℕ × Point)) → Point
      → List (ℕ × Point)
  points_in_front at s proofs inside rest a = (at, a) ∷ points_inside inside a ++ rest (after_stm p t s a)

  abbrev pub points_within : Stm → Point → List (ℕ × Point)
  points_within s = points_inside (made_inside (λ a. []) points_in_front s)

  -- the point before each statement, with the statement's place; nested statements and notes have one too
  abbrev pub points : Block → Point → List (ℕ × Point)
  points b = made (λ a. []) points_in_front b

-- those of a thread
abbrev pub points_of : Program → (t : ℕ) → List (ℕ × Point)
points_of p t = points (plain p) t (numbered p t).body (start (plain p) t)

-- the locks that are held at a point; where there is no point, none is
abbrev pub held_before : Option (ℕ × Point) → List Bool
held_before None = []
held_before (Some r) = r.1.held

-- the locks that a thread holds before its statement with this place (the places of a thread's statements differ)
abbrev pub held_at : Program → (t place : ℕ) → List Bool
held_at p t place = held_before (find (λ r. r.0 == place) (points_of p t))

-- Steps ----------------------------------------------------------------------------------------------------------

-- the locks that a thread holds before the statement of its first item, and none where no item is left
abbrev pub held_in_front_of : Program → (t : ℕ) → List Item → List Bool
held_in_front_of p t [] = []
held_in_front_of p t (i ∷ is) = held_at p t (place_of i)

-- the expression that the next step evaluates, if it evaluates one
abbrev pub evaluated_expression : List Item → Option Term
evaluated_expression [] = None
evaluated_expression (run at c ∷ is) = (parts c).evaluated
evaluated_expression (put at x word ∷ is) = None
evaluated_expression (test at word yes_block no_block ∷ is) = None
evaluated_expression (emit at word ∷ is) = None

-- The expression has width at most 7, and of any two occurrences of variables in it one is stable now: others may write at
-- most one of the words that are read.
pub record IsEvaluable (p : Plain) (h : Holders) (t : ℕ) (e : Term) : Type 0 where
  pub narrow : width e ≤ 7
  pub one_unstable : AllPairs (λ x y. ¬ IsStableNow p h t x → ¬ IsStableNow p h t y → ⊥) (occurrences e)

-- A thread in a state: it holds the locks that the text says, what its next step evaluates is evaluable, and its next step
-- changes no word that is stable now for another thread.
pub record IsDisciplinedAt (p : Program) (s : Run) (t : ℕ) : Type 0 where
  pub locks : AreHeldBy s.holders t (held_in_front_of p t (items_of s t))
  pub evaluates : ForSome (evaluated_expression (items_of s t)) (IsEvaluable (plain p) s.holders t)
  pub spares : (u x : ℕ) → u < length (plain p).threads → u ≢ t → IsStableNow (plain p) s.holders u x → SameAt (step s t).memory s.memory x

-- Each thread is so from every memory, fit to start from or not, after every schedule.
abbrev pub IsDisciplined : Program → Type 0
IsDisciplined p =
    (m : List ℕ) → IsMemory (length p.vars) m → (schedule : List ℕ) → IsSchedule (length (plain p).threads) schedule
    → (t : ℕ) → t < length (plain p).threads → IsDisciplinedAt p (after (plain p) m schedule) t
