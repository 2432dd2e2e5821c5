-- What a sound machine says of its threads.
use Rattle.std.proofs.Common.{◌≡◌, ℕ, ◌+◌, ◌<◌, ◌≤◌, suc, List, [], ◌∷◌, ◌++◌, length, map, get_or, set, replicate, refl, ap, sym, ◌∙◌, subst, arith, Bool, true, false, Option, Some, None, is_some, option_map, IsTrue, ◌↔◌, not, ◌==◌}
use Rattle.std.proofs.lemmas.List.{get_or-map, get_or_default, get_or_past, length-map, length-replicate}
use Rattle.std.specs.Vec.{vec_capacity}
use Rattle.cov_ast.specs.Plain.{plain, plain_block, plain_thread}
use Rattle.cov_ast.specs.Syntax.{Stm, Block, done, more}
use Rattle.cov_ast.specs.View as view
use Rattle.cov_ast.specs.WellFormed.{IsWellFormed, IsBlockInRange, are_distinct, block_size, most_size, places}
use Rattle.cov_ast.specs.declared.decl.Program.{Program}
use Rattle.cov_ast.specs.declared.decl.ThreadDecl.{ThreadDecl}
use Rattle.cov_ast.proofs.WellFormedLaws.{thread_in_range}
use Rattle.flow_model.specs.Agreement.{AreAlike, shape}
use Rattle.flow_model.specs.FirstDifference.{held_by, holders_of}
use Rattle.flow_model.specs.Source.{Item, first_place, items_then, begin, step, step_says}
use Rattle.source_machine.specs.Inside.Firsts.{first_change, first_stm, stand_alike}
use Rattle.source_machine.specs.Frames.{items, with_word}
use Rattle.source_machine.specs.Inside.Entries.{AreFrames}
use Rattle.source_machine.specs.SourceMachine.{change_of, items_left}
use Rattle.source_machine.specs.Inside.Sound.{standing, IsSound, IsThread, AreThreads}
use Rattle.source_machine.specs.Inside.Standing.{Stands}
use Rattle.source_machine.specs.Inside.Stacks.{frames_of, rooms, turned_from, turned_to, Starts, AllStart}
use Rattle.source_machine.specs.declared.shared.Shared.{Shared}
use Rattle.source_machine.specs.declared.thread.Thread.{Thread}
use Rattle.flow_model.specs.declared.machine.Stepped.{Stepped}
use Rattle.source_machine.proofs.AlikeLaws.{alike_sound, alike_complete, first_with_word, with_nothing}
use Rattle.source_machine.proofs.ChangeLaws.{change_is}
use Rattle.source_machine.proofs.FrameLaws.{items_entered, entered_fine}
use Rattle.source_machine.proofs.MachineLaws.{remaining, all_left, run_with, left_at, items_seen, no_thread, each_length, each_at, each_set, Turns, turn_runs, turn_says, turn_fine, memory_stays, holders_stay, outputs_grow}
use Rattle.source_machine.proofs.PartLaws.{part_start}

-- the place of the first statement is that of the first item
first_is : (vars locks room : ℕ) (bs : List Block) (w : Option ℕ) → AreFrames vars locks room bs → first_place (with_word w (items bs)) ≡ option_map (λ c. c.0) (first_stm bs)
first_is vars locks room [] w f = ap first_place (with_nothing w)
first_is vars locks room (done ∷ bs) w f = absurd f.1
first_is vars locks room (more at c proofs b ∷ bs) w f = first_with_word at proofs b bs w c f.1

nothing_first : (is : List Item) → first_place is ≡ None → is ≡ []
nothing_first [] e = refl
nothing_first (i ∷ is) e = absurd cc

-- whether nothing remains
pub done_is : {X : Type 0} (g : X → ℕ × Stm) (o : Option X) (r : Bool) (is : List Item) → is_some o ≡ not r → first_place is ≡ option_map (λ c. c.0) (option_map g o)
    → IsTrue r ↔ (is ≡ [])
done_is g None true is a e = (λ h. nothing_first is e, λ h. refl)
done_is g None false is a e = absurd cc
done_is g (Some x) true is a e = absurd cc
done_is g (Some x) false is a e = (λ h. absurd cc, λ h. let k : None ≡ Some (g x).0 = sym (ap first_place h) ∙ e in cc)

module _ (p : Program) (s : Shared) (threads : List Thread) (a : IsSound p s threads) where
  pub count : length threads ≡ length p.threads
  count = each_length (length s.memory) (length s.holders) (map view.thread p.threads) threads a.each ∙ length-map p.threads view.thread

  pub few : length threads ≤ 16
  few = subst (λ n. n ≤ 16) (sym count) (subst (λ n. n ≤ 16) (length-map p.threads view.thread) a.formed.limits.declared_threads)

  pub thread_fine : (t : ℕ) (x : Thread) → t < length threads → x ≡ get_or threads t x → IsThread (length s.memory) (length s.holders) (get_or (map view.thread p.threads) t no_thread).body x
  thread_fine t x inside is =
      subst (IsThread (length s.memory) (length s.holders) (get_or (map view.thread p.threads) t no_thread).body) (sym is)
      (each_at (length s.memory) (length s.holders) (map view.thread p.threads) threads t no_thread x a.each inside)

  pub place_is : (t : ℕ) (x : Thread) → t < length threads → x ≡ get_or threads t x → first_place (get_or (all_left threads) t []) ≡ option_map (λ c. c.0) (first_stm (frames_of x))
  place_is t x inside is =
      ap first_place (left_at threads t x inside is)
      ∙ first_is (length s.memory) (length s.holders) (vec_capacity x.frames) (frames_of x) x.word (thread_fine t x inside is).frames

  pub changes : (t : ℕ) (x : Thread) → t < length threads → x ≡ get_or threads t x → change_of (get_or (all_left threads) t []) ≡ first_change (first_stm (frames_of x)) x.word
  changes t x inside is =
      ap change_of (left_at threads t x inside is)
      ∙ change_is (length s.memory) (length s.holders) (vec_capacity x.frames) (frames_of x) x.word (thread_fine t x inside is).frames

  -- thread `t` makes a turn, from `x` to `y`
  module _ (t : ℕ) (x y : Thread) (n : Shared) (answer : Stepped) (inside : t < length threads) (is : x ≡ get_or threads t x)
      (so : turned_to n y answer ≡ turned_from t s x) (room : rooms n y ≡ rooms s x) where
    turns : Turns t s x n y answer
    turns = record { turned_so = so; room = room; frames = (thread_fine t x inside is).frames }

    pub next_runs : run_with n (set threads t y) ≡ step (run_with s threads) t
    next_runs = turn_runs t s x n y answer turns threads inside is

    pub next_says : answer ≡ step_says t (holders_of s.holders) (get_or (all_left threads) t [])
    next_says = turn_says t s x n y answer turns threads inside is

    pub next_grows : length n.said.items ≤ length s.said.items + 1
    next_grows = outputs_grow t s x n y answer turns

    pub next_sound : IsSound p n (set threads t y)
    next_sound =
        let memory = memory_stays t s x n y answer turns in
        let holders = holders_stay t s x n y answer turns in
        record {
          formed = a.formed;
          memory = memory ∙ a.memory;
          holders = holders ∙ a.holders;
          each = rw (memory, holders) (each_set (length s.memory) (length s.holders) (map view.thread p.threads) threads t no_thread y a.each
              (turn_fine t s x n y answer turns (get_or (map view.thread p.threads) t no_thread).body (thread_fine t x inside is).stands));
        }

-- two machines of one program
module _ (p : Program) (s : Shared) (threads : List Thread) (a : IsSound p s threads) (n : Shared) (others : List Thread) (b : IsSound p n others) where
  pub counts : length threads ≡ length others
  counts = count p s threads a ∙ sym (count p n others b)

  module _ (t : ℕ) (x y : Thread) (inside : t < length threads) (is : x ≡ get_or threads t x) (js : y ≡ get_or others t y) where
    inside_other : t < length others
    inside_other = subst (λ k. t < k) counts inside

    abbrev body : Block
    body = (get_or (map view.thread p.threads) t no_thread).body

    differ : are_distinct (◌==◌) (places body) ≡ true
    differ = (a.formed.bodies t no_thread (subst (λ k. t < k) (each_length _ _ _ _ a.each) inside)).places_differ

    f : IsThread (length s.memory) (length s.holders) body x
    f = thread_fine p s threads a t x inside is

    g : IsThread (length n.memory) (length n.holders) body y
    g = thread_fine p n others b t y inside_other js

    pub alike_at : stand_alike (first_stm (frames_of x)) x.word (first_stm (frames_of y)) y.word ≡ true → AreAlike (get_or (all_left threads) t []) (get_or (all_left others) t [])
    alike_at h =
        subst (λ l. AreAlike l (get_or (all_left others) t [])) (sym (left_at threads t x inside is))
        (subst (AreAlike (remaining x)) (sym (left_at others t y inside_other js))
        (alike_sound body differ _ _ _ _ _ _ (frames_of x) (frames_of y) x.word y.word f.frames g.frames f.stands g.stands h))

    pub apart_at : stand_alike (first_stm (frames_of x)) x.word (first_stm (frames_of y)) y.word ≡ false → ¬ AreAlike (get_or (all_left threads) t []) (get_or (all_left others) t [])
    apart_at h same =
        let x : true ≡ false =
        sym (alike_complete body differ _ _ _ _ _ _ (frames_of x) (frames_of y) x.word y.word f.frames g.frames f.stands g.stands
        (subst (λ l. AreAlike l (remaining y)) (left_at threads t x inside is)
        (subst (AreAlike (get_or (all_left threads) t [])) (left_at others t y inside_other js) same))) ∙ h in
        cc

    pub alike_where : (r : Bool) → r ≡ stand_alike (first_stm (frames_of x)) x.word (first_stm (frames_of y)) y.word
        → IsTrue r ↔ AreAlike (get_or (all_left threads) t []) (get_or (all_left others) t [])
    alike_where true e = (λ h. alike_at (sym e), λ h. refl)
    alike_where false e = (λ h. absurd cc, λ h. absurd (apart_at (sym e) h))

  pub alike_past : (t : ℕ) → length threads ≤ t → AreAlike (get_or (all_left threads) t []) (get_or (all_left others) t [])
  alike_past t h =
      let k = counts in
      ap (map shape)
      (get_or_past (all_left threads) t [] (simp (length-map) h)
      ∙ sym (get_or_past (all_left others) t [] (simp (length-map) (omega arith))))

-- The start ------------------------------------------------------------------------------------------------------

pub all_start_more : (bs : List Block) (threads : List Thread) (b : Block) (x : Thread) → AllStart bs threads → Starts b x → AllStart (bs ++ b ∷ []) (threads ++ x ∷ [])
all_start_more [] [] b x h f = (f, tt)
all_start_more [] (y ∷ threads) b x h f = absurd h
all_start_more (b0 ∷ bs) [] b x h f = absurd h
all_start_more (b0 ∷ bs) (y ∷ threads) b x h f = (h.0, all_start_more bs threads b x h.1 f)

start_stands : (b : Block) (x : Thread) → Starts b x → Stands b (items (frames_of x))
start_stands b x f = subst (Stands b) (sym (ap items f.frames ∙ items_entered b [])) (part_start b [])

start_frames : (vars locks : ℕ) (b : Block) (x : Thread) → IsBlockInRange vars locks b → Starts b x → AreFrames vars locks (vec_capacity x.frames) (frames_of x)
start_frames vars locks b x r f =
    subst (AreFrames vars locks (vec_capacity x.frames)) (sym f.frames)
    (entered_fine vars locks (vec_capacity x.frames) b [] r (let k = f.room in omega arith) tt)

start_fine : (vars locks : ℕ) (decls : List ThreadDecl) (threads : List Thread) → AllStart (map (λ d. view.block d.body) decls) threads
    → ((k : ℕ) (d : ThreadDecl) → k < length decls → IsBlockInRange vars locks (view.block (get_or decls k d).body)) → AreThreads vars locks (map view.thread decls) threads
start_fine vars locks [] [] h r = tt
start_fine vars locks [] (x ∷ threads) h r = absurd h
start_fine vars locks (d ∷ decls) [] h r = absurd h
start_fine vars locks (d ∷ decls) (x ∷ threads) h r = (
  record { frames = start_frames vars locks (view.block d.body) x (r 0 d (omega arith)) h.0; stands = start_stands (view.block d.body) x h.0 },
  start_fine vars locks decls threads h.1 (λ k e inside. r (suc k) e (omega arith)),
)

start_left : (b : Block) (x : Thread) → Starts b x → items_left (standing x) ≡ items_then (plain_block b) []
start_left b x f = items_seen x ∙ ap (λ w. with_word w (items (frames_of x))) f.word ∙ ap items f.frames ∙ items_entered b []

start_run : (decls : List ThreadDecl) (threads : List Thread) → AllStart (map (λ d. view.block d.body) decls) threads
    → all_left threads ≡ map (λ t. items_then t.body []) (map plain_thread (map view.thread decls))
start_run [] [] h = refl
start_run [] (x ∷ threads) h = absurd h
start_run (d ∷ decls) [] h = absurd h
start_run (d ∷ decls) (x ∷ threads) h = (λ i. start_left (view.block d.body) x h.0 i ∷ start_run decls threads h.1 i)

module _ (p : Program) (formed : IsWellFormed (view.program p)) where
  pub bodies_small : (k : ℕ) (d : ThreadDecl) → k < length p.threads → block_size (view.block (get_or p.threads k d).body) < most_size
  bodies_small k d inside =
      subst (λ t. block_size t.body < most_size) (get_or-map view.thread p.threads k d no_thread inside)
      (formed.bodies k no_thread (subst (λ n. k < n) (sym (length-map p.threads view.thread)) inside)).small

  bodies_in_range : (k : ℕ) (d : ThreadDecl) → k < length p.threads → IsBlockInRange (length p.vars) (length p.locks) (view.block (get_or p.threads k d).body)
  bodies_in_range k d inside = (thread_in_range p formed k (get_or p.threads k d) inside (get_or_default p.threads k d (get_or p.threads k d) inside)).body

module _ (p : Program) (s : Shared) (threads : List Thread) where
  pub started : IsWellFormed (view.program p) → length s.memory ≡ length p.vars → holders_of s.holders ≡ replicate (length p.locks) None
      → AllStart (map (λ d. view.block d.body) p.threads) threads → IsSound p s threads
  started formed memory free all =
      let locks : length s.holders ≡ length p.locks = sym (length-map s.holders held_by) ∙ ap length free ∙ length-replicate (length p.locks) None in
      record {
        formed = formed;
        memory = memory;
        holders = locks;
        each = rw (memory, locks) (start_fine (length p.vars) (length p.locks) p.threads threads all (bodies_in_range p formed));
      }

  pub begins : holders_of s.holders ≡ replicate (length p.locks) None → s.said.items ≡ [] → AllStart (map (λ d. view.block d.body) p.threads) threads
      → run_with s threads ≡ begin (plain (view.program p)) s.memory
  begins free silent all = λ i. record {
    memory = s.memory;
    holders = (free ∙ ap (λ n. replicate n None) (sym (length-map p.locks view.lock))) i;
    outputs = silent i;
    items = start_run p.threads threads all i;
  }
