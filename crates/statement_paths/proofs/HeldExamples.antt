-- The locks that are held along small texts, by computation.
use Rattle.std.proofs.Common.{◌≡◌, [], ◌∷◌, true, false, refl}
use Rattle.cov_expr.specs.Term.{var}
use Rattle.cov_ast.specs.Syntax as s
use Rattle.statement_paths.specs.Paths.{passed, yes, no, head}
use Rattle.statement_paths.specs.LocksHeld.{held_along, held_at_end}

abbrev nothing : s.State
nothing = record { preds = []; types = [] }

-- lock 1; if a { lock 0; unlock 1; } else { skip; } while b { unlock 0; }
abbrev first : s.Block
first = s.more 10 (s.lock 0) [] (s.more 20 (s.unlock 1) [] s.done)

abbrev choice : s.Stm
choice = s.branch (var 0) first (s.more 30 s.skip [] s.done) nothing

abbrev turns : s.Stm
turns = s.loop (var 1) nothing (s.more 50 (s.unlock 0) [] s.done)

-- behind a branch, those at the end of its first block
behind_a_branch : held_along (passed 0 (s.lock 1) ∷ passed 5 choice ∷ []) (false ∷ false ∷ []) ≡ true ∷ false ∷ []
behind_a_branch = refl

in_its_second_block : held_along (passed 0 (s.lock 1) ∷ no 5 (var 0) ∷ passed 30 s.skip ∷ []) (false ∷ false ∷ []) ≡ false ∷ true ∷ []
in_its_second_block = refl

-- behind a loop, those in front of it
behind_a_loop : held_along (passed 5 choice ∷ passed 40 turns ∷ []) (false ∷ false ∷ []) ≡ true ∷ false ∷ []
behind_a_loop = refl

the_end_of_a_turn : held_along (passed 5 choice ∷ head 40 nothing ∷ yes 40 (var 1) ∷ passed 50 (s.unlock 0) ∷ []) (false ∷ false ∷ []) ≡ false ∷ false ∷ []
the_end_of_a_turn = refl

-- a lock that isn't declared is never held
no_such_lock : held_at_end (s.more 0 (s.lock 2) [] s.done) (false ∷ true ∷ []) ≡ false ∷ true ∷ []
no_such_lock = refl
