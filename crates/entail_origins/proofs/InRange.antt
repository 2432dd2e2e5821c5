-- A statement to which a way leads has ids in range, where each statement of the text has.
use Rattle.std.proofs.Common.{◌≡◌, ℕ, ◌==◌, List, [], ◌∷◌, Bool, true, false, Option, Some, None, option_map, subst, if◌then◌else◌}
use Rattle.std.specs.Option.{option_or}
use Rattle.cov_ast.specs.Syntax.{Stm, branch, loop, Block, done, more}
use Rattle.cov_ast.specs.WellFormed.{IsStmInRange, IsBlockInRange}
use Rattle.statement_paths.specs.Paths.{Step, passed, yes, no, head, Way, here, with_steps_in_front, way_to, way_within}

module _ (vars locks : ℕ) where
  abbrev LeadsInRange : Option Way → Type 0
  LeadsInRange None = Unit {0}
  LeadsInRange (Some w) = IsStmInRange vars locks w.stm

  either : (first second : Option Way) → LeadsInRange first → LeadsInRange second → LeadsInRange (option_or first second)
  either None second h k = k
  either (Some w) second h k = h

  further : (steps : List Step) (way : Option Way) → LeadsInRange way → LeadsInRange (option_map (with_steps_in_front steps) way)
  further steps None h = tt
  further steps (Some w) h = h

  itself : (b : Bool) (w : Way) (way : Option Way) → IsStmInRange vars locks w.stm → LeadsInRange way → LeadsInRange (if b then Some w else way)
  itself true w way h k = h
  itself false w way h k = k

  mutual
    within_in_range : (at : ℕ) (s : Stm) (place : ℕ) → IsStmInRange vars locks s → LeadsInRange (way_within at s place)
    within_in_range at (branch e a b join) place range =
        let first = option_map (with_steps_in_front (yes at e ∷ [])) (way_to a place) in
        let second = option_map (with_steps_in_front (no at e ∷ [])) (way_to b place) in
        either first second (further (yes at e ∷ []) (way_to a place) (way_in_range a place range.1)) (further (no at e ∷ []) (way_to b place) (way_in_range b place range.2))
    within_in_range at (loop e inv b) place range = further (head at inv ∷ yes at e ∷ []) (way_to b place) (way_in_range b place range.2)
    within_in_range at _ place range = tt

    way_in_range : (b : Block) (place : ℕ) → IsBlockInRange vars locks b → LeadsInRange (way_to b place)
    way_in_range done place range = tt
    way_in_range (more at s proofs rest) place range =
        either (if at == place then Some (here s proofs) else way_within at s place) (option_map (with_steps_in_front (passed at s ∷ [])) (way_to rest place))
        (itself (at == place) (here s proofs) (way_within at s place) range.0 (within_in_range at s place range.0))
        (further (passed at s ∷ []) (way_to rest place) (way_in_range rest place range.2))

pub statement_in_range : (vars locks n m : ℕ) (b : Block) (place : ℕ) (w : Way) → IsBlockInRange vars locks b → way_to b place ≡ Some w
    → vars ≡ n → locks ≡ m → IsStmInRange n m w.stm
statement_in_range vars locks n m b place w range is all_vars all_locks =
    subst (λ k. IsStmInRange k m w.stm) all_vars
    (subst (λ k. IsStmInRange vars k w.stm) all_locks (subst (LeadsInRange vars locks) is (way_in_range vars locks b place range)))
