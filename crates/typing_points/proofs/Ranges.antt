-- The steps of a way have ids in range, where each statement of the text has, and so have the steps to the ends of blocks.
use Rattle.std.proofs.Common.{◌≡◌, ℕ, zero, suc, ◌==◌, List, [], ◌∷◌, All, Bool, true, false, Option, Some, None, option_map, subst, take, if◌then◌else◌}
use Rattle.std.specs.Option.{option_or}
use Rattle.std.proofs.lemmas.List.Elements.{All-nil, All-cons, All-append, All-head, All-tail}
use Rattle.cov_ast.specs.Syntax.{Stm, skip, branch, loop, Block, done, more}
use Rattle.cov_ast.specs.WellFormed.{IsStmInRange, IsBlockInRange}
use Rattle.statement_paths.specs.Paths.{Step, passed, yes, no, head, Way, here, passed_all, to_body_end, to_first_end, to_head, to_second_end, with_steps_in_front, way_to, way_within}
use Rattle.typing_points.specs.PointsBehind.{IsStepInRange}

module _ (vars locks : ℕ) where
  abbrev pub AreAllInRange : List Step → Type 0
  AreAllInRange steps = All (IsStepInRange vars locks) steps

  one_step : (s : Step) → IsStepInRange vars locks s → AreAllInRange (s ∷ [])
  one_step s h = All-cons (IsStepInRange vars locks) s [] h (All-nil (IsStepInRange vars locks))

  -- Ways -----------------------------------------------------------------------------------------------------------

  abbrev LeadsInRange : Option Way → Type 0
  LeadsInRange None = Unit {0}
  LeadsInRange (Some w) = AreAllInRange w.steps × IsStmInRange vars locks w.stm

  either : (first second : Option Way) → LeadsInRange first → LeadsInRange second → LeadsInRange (option_or first second)
  either None second h k = k
  either (Some w) second h k = h

  further : (steps : List Step) (way : Option Way) → AreAllInRange steps → LeadsInRange way → LeadsInRange (option_map (with_steps_in_front steps) way)
  further steps None front h = tt
  further steps (Some w) front h = (All-append (IsStepInRange vars locks) steps w.steps front h.0, h.1)

  itself : (b : Bool) (w : Way) (way : Option Way) → LeadsInRange (Some w) → LeadsInRange way → LeadsInRange (if b then Some w else way)
  itself true w way h k = h
  itself false w way h k = k

  mutual
    within_in_range : (at : ℕ) (s : Stm) (place : ℕ) → IsStmInRange vars locks s → LeadsInRange (way_within at s place)
    within_in_range at skip place range = tt
    within_in_range at (branch e a b join) place range =
        let first = option_map (with_steps_in_front (yes at e ∷ [])) (way_to a place) in
        let second = option_map (with_steps_in_front (no at e ∷ [])) (way_to b place) in
        either first second (further (yes at e ∷ []) (way_to a place) (one_step (yes at e) range.0) (way_in_range a place range.1))
        (further (no at e ∷ []) (way_to b place) (one_step (no at e) range.0) (way_in_range b place range.2))
    within_in_range at (loop e inv b) place range =
        further (head at inv ∷ yes at e ∷ []) (way_to b place)
        (All-cons (IsStepInRange vars locks) (head at inv) (yes at e ∷ []) range.1 (one_step (yes at e) range.0)) (way_in_range b place range.2)
    within_in_range at _ place range = tt

    way_in_range : (b : Block) (place : ℕ) → IsBlockInRange vars locks b → LeadsInRange (way_to b place)
    way_in_range done place range = tt
    way_in_range (more at s proofs rest) place range =
        either (if at == place then Some (here s proofs) else way_within at s place) (option_map (with_steps_in_front (passed at s ∷ [])) (way_to rest place))
        (itself (at == place) (here s proofs) (way_within at s place) (All-nil (IsStepInRange vars locks), range.0) (within_in_range at s place range.0))
        (further (passed at s ∷ []) (way_to rest place) (one_step (passed at s) range.0) (way_in_range rest place range.2))

  -- The ends of blocks ---------------------------------------------------------------------------------------------

  passed_in_range : (b : Block) → IsBlockInRange vars locks b → AreAllInRange (passed_all b)
  passed_in_range done range = All-nil (IsStepInRange vars locks)
  passed_in_range (more at s proofs rest) range =
      All-cons (IsStepInRange vars locks) (passed at s) (passed_all rest) range.0 (passed_in_range rest range.2)

  pub first_end_in_range : (at : ℕ) (s : Stm) → IsStmInRange vars locks s → AreAllInRange (to_first_end at s)
  first_end_in_range at (branch e a b join) range = All-cons (IsStepInRange vars locks) (yes at e) (passed_all a) range.0 (passed_in_range a range.1)
  first_end_in_range at _ range = All-nil (IsStepInRange vars locks)

  pub second_end_in_range : (at : ℕ) (s : Stm) → IsStmInRange vars locks s → AreAllInRange (to_second_end at s)
  second_end_in_range at (branch e a b join) range = All-cons (IsStepInRange vars locks) (no at e) (passed_all b) range.0 (passed_in_range b range.2)
  second_end_in_range at _ range = All-nil (IsStepInRange vars locks)

  pub head_in_range : (at : ℕ) (s : Stm) → IsStmInRange vars locks s → AreAllInRange (to_head at s)
  head_in_range at (loop e inv b) range = one_step (head at inv) range.1
  head_in_range at _ range = All-nil (IsStepInRange vars locks)

  pub body_end_in_range : (at : ℕ) (s : Stm) → IsStmInRange vars locks s → AreAllInRange (to_body_end at s)
  body_end_in_range at (loop e inv b) range =
      All-cons (IsStepInRange vars locks) (head at inv) (yes at e ∷ passed_all b) range.1
      (All-cons (IsStepInRange vars locks) (yes at e) (passed_all b) range.0 (passed_in_range b range.2))
  body_end_in_range at _ range = All-nil (IsStepInRange vars locks)

  -- the first so many of some steps
  pub first_in_range : (n : ℕ) (steps : List Step) → AreAllInRange steps → AreAllInRange (take n steps)
  first_in_range zero steps range = All-nil (IsStepInRange vars locks)
  first_in_range (suc n) [] range = range
  first_in_range (suc n) (s ∷ ss) range =
      All-cons (IsStepInRange vars locks) s (take n ss) (All-head (IsStepInRange vars locks) s ss range)
      (first_in_range n ss (All-tail (IsStepInRange vars locks) s ss range))

-- a way that is found, of a program whose ids are in range
pub found_in_range : (vars locks n m : ℕ) (b : Block) (place : ℕ) (w : Way) → IsBlockInRange vars locks b → way_to b place ≡ Some w → vars ≡ n → locks ≡ m
    → All (IsStepInRange n m) w.steps × IsStmInRange n m w.stm
found_in_range vars locks n m b place w range is all_vars all_locks =
    subst (λ k. All (IsStepInRange k m) w.steps × IsStmInRange k m w.stm) all_vars
    (subst (λ k. All (IsStepInRange vars k) w.steps × IsStmInRange vars k w.stm) all_locks (subst (LeadsInRange vars locks) is (way_in_range vars locks b place range)))
