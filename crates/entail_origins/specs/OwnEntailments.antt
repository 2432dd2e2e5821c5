-- The entailments of a statement itself, by the rules of types: those of its blocks are left out.
use Rattle.std.specs.Prelude.{ℕ, List, [], ◌∷◌, ◌++◌, Option, Some, None}
use Rattle.cov_expr.specs.Term.{neg}
use Rattle.cov_ast.specs.Plain.{Plain}
use Rattle.cov_ast.specs.Syntax.{Stm, skip, assign, lock, unlock, branch, loop, note, output}
use Rattle.typing_law.specs.Blocks.{after_block}
use Rattle.typing_law.specs.Entailments.{Entailment, assign_entailments, guard_follows, state_follows, unlock_entailments}
use Rattle.point_law.specs.After.{meet, with_guard}
use Rattle.point_law.specs.Point.{Point}

-- those where a lock is given back, if one is
abbrev pub returned_entailments : Plain → (t : ℕ) → Point → (returned : Option ℕ) → List Entailment
returned_entailments p t a None = []
returned_entailments p t a (Some l) = unlock_entailments p t a l

-- in the order of their numbers, at the point in front of the statement
abbrev pub own_entailments : Plain → (t : ℕ) → Stm → Point → List Entailment
own_entailments p t skip a = []
own_entailments p t (assign x e q retypes) a = assign_entailments p t a x e q retypes
own_entailments p t (lock l) a = []
own_entailments p t (unlock l) a = returned_entailments p t a (Some l)
own_entailments p t (branch e yes_block no_block join) a =
    guard_follows p t a e
    ∷ (state_follows (after_block p t yes_block (with_guard p t a e)) join ++ state_follows (after_block p t no_block (with_guard p t a (neg e))) join)
own_entailments p t (loop e inv b) a =
    let head = meet p t a inv in
    state_follows a inv ++ (guard_follows p t head e ∷ state_follows (after_block p t b (with_guard p t head e)) inv)
own_entailments p t (note j) a = state_follows a j
own_entailments p t (output e) a = guard_follows p t a e ∷ []
