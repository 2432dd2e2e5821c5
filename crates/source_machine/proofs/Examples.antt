-- Small threads whose steps are known, by computation.
use Rattle.std.proofs.Common.{◌≡◌, ℕ, zero, suc, List, [], ◌∷◌, Some, None, refl, true, false}
use Rattle.cov_expr.specs.Term.{const, var}
use Rattle.cov_ast.specs.Plain.{no_state, lock, unlock, loop, output, assign, none, next}
use Rattle.cov_ast.specs.Syntax.{Block, done, more}
use Rattle.cov_ast.specs.Syntax as s
use Rattle.flow_model.specs.Source.{Item, Holders, run, put, test, emit, step_says}
use Rattle.flow_model.specs.declared.machine.Stepped.TheVariants as stepped
use Rattle.source_machine.specs.Frames.{items, with_word}
use Rattle.source_machine.specs.Inside.Entries.{entered, height}
use Rattle.source_machine.specs.Inside.Firsts.{first_stm, stand_alike}
use Rattle.source_machine.specs.Inside.Turns.{Turned, turned, moved}

-- A loop that puts out and stores: thread t { note ..; while a { output a; a := 0; note ..; } note ..; } -----------

abbrev inner : Block
inner = more 20 (s.output (var 0)) [] (more 30 (s.assign 0 (const 0) None []) [] (more 40 (s.note no_state) [] done))

abbrev from_loop : Block
from_loop = more 9 (s.loop (var 0) no_state inner) [] (more 50 (s.note no_state) [] done)

abbrev body : Block
body = more 4 (s.note no_state) [] from_loop

-- so many steps of the thread, from a memory in which a is 7
abbrev after : ℕ → Turned
after zero = moved (7 ∷ []) [] [] (entered body [])
after (suc n) = let q = after n in turned 0 q.memory q.holders q.outputs q.frames q.word

-- what remains then
abbrev remaining : ℕ → List Item
remaining n = with_word (after n).word (items (after n).frames)

-- the loop and its body are the most that it stands in
two_frames : height body ≡ 2
two_frames = refl

-- a note takes no step
starts_at_loop : (after 0).frames ≡ from_loop ∷ []
starts_at_loop = refl

-- the guard is evaluated,
evaluates_guard : remaining 1 ≡ test 9 7 (next 20 (output (var 0)) (next 30 (assign 0 (const 0)) (next 9
    (loop (var 0) (next 20 (output (var 0)) (next 30 (assign 0 (const 0)) none))) none))) none ∷ []
evaluates_guard = refl

-- and the body stands in front of the loop.
enters_body : (after 2).frames ≡ inner ∷ from_loop ∷ []
enters_body = refl

evaluates_output : remaining 3 ≡ emit 20 7 ∷ run 30 (assign 0 (const 0)) ∷ run 9 (loop (var 0) (next 20 (output (var 0)) (next 30 (assign 0 (const 0)) none))) ∷ []
evaluates_output = refl

nothing_yet : (after 3).outputs ≡ []
nothing_yet = refl

puts_out : (after 4).outputs ≡ 7 ∷ []
puts_out = refl

evaluates_store : (after 5).memory ≡ 7 ∷ []
evaluates_store = refl

stores : (after 6).memory ≡ 0 ∷ []
stores = refl

-- behind the store only a note is left of the body, so the loop is next
comes_back : (after 6).frames ≡ from_loop ∷ []
comes_back = refl

ends : (after 8).frames ≡ []
ends = refl

stays_at_end : (after 9).answer ≡ stepped.Idle
stays_at_end = refl

-- What a step answers: a lock that the thread itself holds, or that another frees, -------------------------------

abbrev held : Holders
held = Some 0 ∷ []

holder_waits : step_says 0 held (run 4 (lock 0) ∷ []) ≡ stepped.Stayed
holder_waits = refl

other_frees : step_says 1 held (run 4 (unlock 0) ∷ []) ≡ stepped.Stayed
other_frees = refl

holder_frees : step_says 0 held (run 4 (unlock 0) ∷ []) ≡ stepped.Moved
holder_frees = refl

-- and what is pending.
pending_moves : step_says 1 held (put 4 0 7 ∷ []) ≡ stepped.Moved
pending_moves = refl

finished_is_idle : step_says 0 held [] ≡ stepped.Idle
finished_is_idle = refl

-- Which threads stand alike: the word of a test counts, ----------------------------------------------------------

tests_differ : stand_alike (first_stm (from_loop ∷ [])) (Some 7) (first_stm (from_loop ∷ [])) (Some 6) ≡ false
tests_differ = refl

-- those of outputs and stores don't,
outputs_alike : stand_alike (first_stm (inner ∷ from_loop ∷ [])) (Some 7) (first_stm (inner ∷ from_loop ∷ [])) (Some 6) ≡ true
outputs_alike = refl

-- but that there is one does, and so does the place.
evaluated_differs : stand_alike (first_stm (inner ∷ from_loop ∷ [])) (Some 7) (first_stm (inner ∷ from_loop ∷ [])) None ≡ false
evaluated_differs = refl

places_differ : stand_alike (first_stm (inner ∷ from_loop ∷ [])) None (first_stm (from_loop ∷ [])) None ≡ false
places_differ = refl
