-- Small texts, and the ways in them, by computation.
use Rattle.std.proofs.Common.{◌≡◌, List, [], ◌∷◌, Option, Some, None, refl}
use Rattle.cov_expr.specs.Term.{Term, const, var}
use Rattle.cov_ast.specs.Syntax as s
use Rattle.statement_paths.specs.Paths.{Step, passed, yes, no, head, Way, way_to, to_first_end, to_second_end, to_head, to_body_end}

abbrev stated : Term → s.State
stated e = record { preds = e ∷ []; types = [] }

abbrev proved : List s.Proof
proved = record { number = 1; cert = s.calc } ∷ []

-- 0: skip; 10: if a { 20: a := 0; } else { 30: skip; 40: while b inv { c } { 50: unlock l; 60: b := 0; } } 70: skip;
abbrev store : s.Stm
store = s.assign 0 (const 0) None []

abbrev turn : s.Block
turn = s.more 50 (s.unlock 0) [] (s.more 60 (s.assign 1 (const 0) None []) proved s.done)

abbrev first : s.Block
first = s.more 20 store [] s.done

abbrev second : s.Block
second = s.more 30 s.skip [] (s.more 40 (s.loop (var 1) (stated (var 2)) turn) [] s.done)

abbrev choice : s.Stm
choice = s.branch (var 0) first second (stated (const 1))

abbrev body : s.Block
body = s.more 0 s.skip [] (s.more 10 choice proved (s.more 70 s.skip [] s.done))

abbrev way_of : List Step → s.Stm → List s.Proof → Option Way
way_of steps stm proofs = Some (record { steps = steps; stm = stm; proofs = proofs })

the_first : way_to body 0 ≡ way_of [] s.skip []
the_first = refl

-- a statement comes before those in its blocks
a_branch : way_to body 10 ≡ way_of (passed 0 s.skip ∷ []) choice proved
a_branch = refl

in_the_first_block : way_to body 20 ≡ way_of (passed 0 s.skip ∷ yes 10 (var 0) ∷ []) store []
in_the_first_block = refl

-- what stands in the first block isn't passed on the way into the second
in_a_loop : way_to body 60
    ≡ way_of (passed 0 s.skip ∷ no 10 (var 0) ∷ passed 30 s.skip ∷ head 40 (stated (var 2)) ∷ yes 40 (var 1) ∷ passed 50 (s.unlock 0) ∷ []) (s.assign 1 (const 0) None []) proved
in_a_loop = refl

-- a branch is passed as a whole
the_last : way_to body 70 ≡ way_of (passed 0 s.skip ∷ passed 10 choice ∷ []) s.skip []
the_last = refl

nowhere : way_to body 71 ≡ None
nowhere = refl

-- of two statements at a place the one that comes first in the text
a_place_twice : way_to (s.more 5 (s.loop (var 0) (stated (const 1)) (s.more 6 s.skip [] s.done)) [] (s.more 6 store [] s.done)) 6
    ≡ way_of (head 5 (stated (const 1)) ∷ yes 5 (var 0) ∷ []) s.skip []
a_place_twice = refl

-- The ends of blocks -------------------------------------------------------------------------------------------

the_first_end : to_first_end 10 choice ≡ yes 10 (var 0) ∷ passed 20 store ∷ []
the_first_end = refl

an_empty_end : to_second_end 10 (s.branch (var 0) first s.done (stated (const 1))) ≡ no 10 (var 0) ∷ []
an_empty_end = refl

the_head : to_head 40 (s.loop (var 1) (stated (var 2)) turn) ≡ head 40 (stated (var 2)) ∷ []
the_head = refl

the_end_of_a_turn : to_body_end 40 (s.loop (var 1) (stated (var 2)) turn)
    ≡ head 40 (stated (var 2)) ∷ yes 40 (var 1) ∷ passed 50 (s.unlock 0) ∷ passed 60 (s.assign 1 (const 0) None []) ∷ []
the_end_of_a_turn = refl

-- a branch has no head, and a loop no second block
no_head : to_head 10 choice ≡ []
no_head = refl

no_second_block : to_second_end 40 (s.loop (var 1) (stated (var 2)) turn) ≡ []
no_second_block = refl
