-- A step of a thread is a step of the machine, and leaves it sound.
use Rattle.std.proofs.Common.{◌≡◌, ℕ, ◌+◌, ◌<◌, ◌≤◌, zero, suc, List, [], ◌∷◌, length, map, reverse, get_or, set, refl, ap, sym, ◌∙◌, subst, arith}
use Rattle.std.proofs.lemmas.List.{get_or-map, length-map, map-set}
use Rattle.std.specs.Borrow.{Bor}
use Rattle.std.specs.Vec.{vec_capacity}
use Rattle.cov_ast.specs.Declarations.{no_modes}
use Rattle.cov_ast.specs.Syntax.{Block, done}
use Rattle.cov_ast.specs.Syntax as s
use Rattle.cov_ast.specs.View as view
use Rattle.cov_ast.specs.declared.stmt.Stmt.{Stmt}
use Rattle.flow_model.specs.FirstDifference.{held_by, holders_of}
use Rattle.flow_model.specs.Source.{Item, Run, Local, turn, step, step_says}
use Rattle.flow_model.specs.declared.machine.Stepped.{Stepped}
use Rattle.source_machine.specs.Frames.{items, with_word}
use Rattle.source_machine.specs.SourceMachine.{items_left}
use Rattle.source_machine.specs.Inside.Entries.{AreFrames}
use Rattle.source_machine.specs.Inside.Standing.{Stands}
use Rattle.source_machine.specs.Inside.Sound.{standing, IsThread, AreThreads}
use Rattle.source_machine.specs.Inside.Stacks.{frames_of, rooms, turned_from, turned_to}
use Rattle.source_machine.specs.declared.shared.Shared.{Shared}
use Rattle.source_machine.specs.declared.thread.Thread.{Thread}
use Rattle.source_machine.proofs.PartLaws.{turned_stands}
use Rattle.source_machine.proofs.TurnLaws.{IsTurn, turned_is, turned_fine, turned_memory, turned_holders, turned_outputs}

frames_seen : (fs : List (Bor (List Stmt))) → map view.block (map (λ f. f.now) fs) ≡ map (λ f. view.block f.now) fs
frames_seen [] = refl
frames_seen (f ∷ fs) = ap (λ bs. view.block f.now ∷ bs) (frames_seen fs)

-- the items for which a thread of the code stands
abbrev pub remaining : Thread → List Item
remaining thread = with_word thread.word (items (frames_of thread))

-- they are what contracts see
pub items_seen : (thread : Thread) → items_left (standing thread) ≡ remaining thread
items_seen thread = ap (λ bs. with_word thread.word (items (reverse bs))) (frames_seen thread.frames.items)

abbrev pub all_left : List Thread → List (List Item)
all_left threads = map items_left (map standing threads)

-- the run for which what threads share and the threads stand
abbrev pub run_with : Shared → List Thread → Run
run_with s threads = record { memory = s.memory; holders = holders_of s.holders; outputs = s.said.items; items = all_left threads }

pub left_at : (threads : List Thread) (t : ℕ) (thread : Thread) → t < length threads → thread ≡ get_or threads t thread → get_or (all_left threads) t [] ≡ remaining thread
left_at threads t thread inside is =
    get_or-map items_left (map standing threads) t (standing thread) [] (omega (arith, length-map threads standing, inside))
    ∙ ap items_left (get_or-map standing threads t thread (standing thread) inside ∙ ap standing (sym is))
    ∙ items_seen thread

left_set : (threads : List Thread) (t : ℕ) (thread : Thread) → all_left (set threads t thread) ≡ set (all_left threads) t (remaining thread)
left_set threads t thread =
    ap (map items_left) (map-set standing threads t thread)
    ∙ map-set items_left (map standing threads) t (standing thread)
    ∙ ap (set (all_left threads) t) (items_seen thread)

module _ (vars locks : ℕ) where
  pub each_length : (ds : List s.Thread) (threads : List Thread) → AreThreads vars locks ds threads → length threads ≡ length ds
  each_length [] [] h = refl
  each_length [] (x ∷ threads) h = absurd h
  each_length (d ∷ ds) [] h = absurd h
  each_length (d ∷ ds) (x ∷ threads) h = ap suc (each_length ds threads h.1)

  pub each_at : (ds : List s.Thread) (threads : List Thread) (t : ℕ) (d : s.Thread) (thread : Thread) → AreThreads vars locks ds threads → t < length threads
      → IsThread vars locks (get_or ds t d).body (get_or threads t thread)
  each_at [] [] t d x h inside = absurd (omega arith)
  each_at [] (y ∷ threads) t d x h inside = absurd h
  each_at (d0 ∷ ds) [] t d x h inside = absurd h
  each_at (d0 ∷ ds) (y ∷ threads) zero d x h inside = h.0
  each_at (d0 ∷ ds) (y ∷ threads) (suc t) d x h inside = each_at ds threads t d x h.1 (omega arith)

  pub each_set : (ds : List s.Thread) (threads : List Thread) (t : ℕ) (d : s.Thread) (thread : Thread) → AreThreads vars locks ds threads
      → IsThread vars locks (get_or ds t d).body thread → AreThreads vars locks ds (set threads t thread)
  each_set [] [] t d x h fine = h
  each_set [] (y ∷ threads) t d x h fine = absurd h
  each_set (d0 ∷ ds) [] t d x h fine = absurd h
  each_set (d0 ∷ ds) (y ∷ threads) zero d x h fine = (fine, h.1)
  each_set (d0 ∷ ds) (y ∷ threads) (suc t) d x h fine = (h.0, each_set ds threads t d x h.1 fine)

-- past the end of the threads stands one with an empty body
abbrev pub no_thread : s.Thread
no_thread = record { name = []; at = 0; modes = no_modes; body = done; end = 0 }

-- A turn of thread `t`, from `thread` to `next`.
pub record Turns (t : ℕ) (s : Shared) (thread : Thread) (n : Shared) (next : Thread) (answer : Stepped) : Type 0 where
  pub turned_so : turned_to n next answer ≡ turned_from t s thread
  pub room : rooms n next ≡ rooms s thread
  pub frames : AreFrames (length s.memory) (length s.holders) (vec_capacity thread.frames) (frames_of thread)

module _ (t : ℕ) (s : Shared) (thread : Thread) (n : Shared) (next : Thread) (answer : Stepped) (q : Turns t s thread n next answer) where
  is_turn : IsTurn t s.memory (holders_of s.holders) s.said.items (remaining thread) (turned_to n next answer)
  is_turn = subst (IsTurn t s.memory (holders_of s.holders) s.said.items (remaining thread)) (sym q.turned_so)
      (turned_is t s.memory (holders_of s.holders) s.said.items (length s.memory) (length s.holders) (vec_capacity thread.frames) (frames_of thread) thread.word q.frames)

  pub turn_says : (threads : List Thread) → t < length threads → thread ≡ get_or threads t thread → answer ≡ step_says t (holders_of s.holders) (get_or (all_left threads) t [])
  turn_says threads inside is = is_turn.says ∙ ap (step_says t (holders_of s.holders)) (sym (left_at threads t thread inside is))

  abbrev put : List Thread → Local → Run
  put threads r = record { memory = r.memory; holders = r.holders; outputs = r.outputs; items = set (all_left threads) t r.items }

  pub turn_runs : (threads : List Thread) → t < length threads → thread ≡ get_or threads t thread → run_with n (set threads t next) ≡ step (run_with s threads) t
  turn_runs threads inside is =
      ap (λ is. record { memory = n.memory; holders = holders_of n.holders; outputs = n.said.items; items = is }) (left_set threads t next)
      ∙ ap (put threads) (is_turn.does ∙ ap (turn t s.memory (holders_of s.holders) s.said.items) (sym (left_at threads t thread inside is)))

  pub memory_stays : length n.memory ≡ length s.memory
  memory_stays = ap (λ r. length r.memory) q.turned_so ∙ turned_memory t s.memory (holders_of s.holders) s.said.items (frames_of thread) thread.word

  pub holders_stay : length n.holders ≡ length s.holders
  holders_stay =
      sym (length-map n.holders held_by) ∙ ap (λ r. length r.holders) q.turned_so
      ∙ turned_holders t s.memory (holders_of s.holders) s.said.items (frames_of thread) thread.word ∙ length-map s.holders held_by

  pub outputs_grow : length n.said.items ≤ length s.said.items + 1
  outputs_grow = subst (λ k. k ≤ length s.said.items + 1) (sym (ap (λ r. length r.outputs) q.turned_so))
      (turned_outputs t s.memory (holders_of s.holders) s.said.items (frames_of thread) thread.word)

  pub turn_fine : (body : Block) → Stands body (items (frames_of thread)) → IsThread (length s.memory) (length s.holders) body next
  turn_fine body stands = record {
    frames = subst (λ bs. AreFrames (length s.memory) (length s.holders) (vec_capacity next.frames) bs) (sym (ap (λ r. r.frames) q.turned_so))
        (subst (λ room. AreFrames (length s.memory) (length s.holders) room (turned_from t s thread).frames) (sym (ap (λ r. r.1) q.room))
        (turned_fine (length s.memory) (length s.holders) (vec_capacity thread.frames) t s.memory (holders_of s.holders) s.said.items (frames_of thread) thread.word q.frames));
    stands = subst (λ bs. Stands body (items bs)) (sym (ap (λ r. r.frames) q.turned_so))
        (turned_stands s.memory (holders_of s.holders) s.said.items body t (length s.memory) (length s.holders) (vec_capacity thread.frames) (frames_of thread) thread.word q.frames stands);
  }
