-- The games of all threads compose, over every schedule: each thread has a history of lawful moves that stands where the two
-- runs stand.
use Rattle.std.proofs.Common.{◌≡◌, ◌≢◌, ◌⊎◌, ◌↔◌, ℕ, ◌<◌, List, [], ◌∷◌, length, true, Option, Some, None, refl, sym, ◌∙◌, ap, ap₂, subst, length-set, inl, inr, get_or-set_same, get_or-set_other}
use Rattle.std.proofs.Math.Decide.{ℕ_discrete}
use Rattle.std.proofs.Math.ListN.{get_or-map, length-map}
use Rattle.std.proofs.lemmas.List.{length-replicate}
use Rattle.cov_expr.specs.Entailment.{Holds}
use Rattle.cov_expr.specs.Words.{IsMemory, AreWords, IsSchedule}
use Rattle.cov_ast.specs.Declarations.{is_low, no_thread, thread_at}
use Rattle.cov_ast.specs.Plain.{Plain, class_term}
use Rattle.cov_ast.specs.Syntax.{Class, low, high, when}
use Rattle.flow_model.specs.Source.{Item, Local, local, Run, items_of, step, turn, run_from, begin, items_then, put_back}
use Rattle.flow_model.specs.Agreement.{AreAlike, AreFitStarts, StatesAgree}
use Rattle.flow_model.specs.Secure.{IsSecure}
use Rattle.flow_model.specs.Game.{Copies, Move, own, outside, after_move, after_moves, opening, MeetsAssumptions, IsLawfulOutside, AreLawful, IsSecureMove, IsSecureThread}
use Rattle.flow_model.specs.Composable.{AreControlsLow, HasCompatibleModes}
use Rattle.flow_model.proofs.WordBodies.{HasWordBodies}
use Rattle.flow_model.proofs.Turns.{ItemsHaveWords, TurnHasWords, turn_words, long_memory, long_holders, items_words}

abbrev local_of : Run → ℕ → Local
local_of s t = local s.memory s.holders s.outputs (items_of s t)

copies_of : Run → Run → ℕ → Copies
copies_of s1 s2 t = record { left = local_of s1 t; right = local_of s2 t }

-- a history of t's game that stands where the runs stand
record Follows (p : Plain) (m1 m2 : List ℕ) (s1 s2 : Run) (t : ℕ) : Type 0 where
  moves : List Move
  lawful : AreLawful p t moves (opening p t m1 m2)
  stands : after_moves t moves (opening p t m1 m2) ≡ copies_of s1 s2 t

-- what one run keeps
record Sound (p : Plain) (s : Run) : Type 0 where
  memory : IsMemory (length p.vars) s.memory
  locks : length s.holders ≡ length p.locks
  threads : length s.items ≡ length p.threads
  outputs : AreWords s.outputs
  words : (t : ℕ) → ItemsHaveWords (items_of s t)

record Paired (p : Plain) (m1 m2 : List ℕ) (s1 s2 : Run) : Type 0 where
  left : Sound p s1
  right : Sound p s2
  agree : StatesAgree p s1 s2
  follows : (t : ℕ) → t < length p.threads → Follows p m1 m2 s1 s2 t

-- One step -----------------------------------------------------------------------------------------------------

-- a step of u takes no lock of t, and gives none back
same_holder : (a b : Option ℕ) (t u : ℕ) → t ≢ u
    → (b ≡ a) ⊎ ((a ≡ None) × (b ≡ Some u)) ⊎ ((a ≡ Some u) × (b ≡ None)) → (b ≡ Some t) ↔ (a ≡ Some t)
same_holder a b t u d (inl e) = (λ k. cc, λ k. cc)
same_holder a b t u d (inr (inl e)) = (λ k. absurd (d cc), λ k. cc)
same_holder a b t u d (inr (inr e)) = (λ k. cc, λ k. absurd (d cc))

items_same : (s : Run) (t : ℕ) (r : Local) → t < length s.items → items_of (put_back s t r) t ≡ r.items
items_same s t r h = get_or-set_same s.items t r.items [] h

items_other : (s : Run) (t u : ℕ) (r : Local) → t ≢ u → items_of (put_back s u r) t ≡ items_of s t
items_other s t u r d = get_or-set_other s.items u t r.items [] d

abbrev turned : Run → ℕ → Local
turned s u = turn u s.memory s.holders s.outputs (items_of s u)

sound_step : (p : Plain) (s : Run) (u : ℕ) → u < length p.threads → Sound p s → Sound p (step s u)
sound_step p s u h k =
    record {
      memory = record { complete = long_memory u s.memory s.holders s.outputs (items_of s u) ∙ k.memory.complete; words = made.0 };
      locks = long_holders u s.memory s.holders s.outputs (items_of s u) ∙ k.locks;
      threads = length-set s.items u (turned s u).items ∙ k.threads;
      outputs = made.1;
      words = λ t. words_at t (ℕ_discrete t u);
    }
  where
    made : TurnHasWords (turned s u)
    made = turn_words u s.memory s.holders s.outputs (items_of s u) k.memory.words k.outputs (k.words u)

    words_at : (t : ℕ) → Dec (t ≡ u) → ItemsHaveWords (items_of (step s u) t)
    words_at t (yes e) = rw (e, items_same s u (turned s u) (rw k.threads h)) made.2
    words_at t (no d) = subst ItemsHaveWords (sym (items_other s t u (turned s u) d)) (k.words t)

-- copies whose items are the same
standing : (c d : Local) (is js ks ls : List Item) → ks ≡ is → ls ≡ js
    → ◌≡◌ {A = Copies} (record { left = local c.memory c.holders c.outputs is; right = local d.memory d.holders d.outputs js })
    (record { left = local c.memory c.holders c.outputs ks; right = local d.memory d.holders d.outputs ls })
standing c d is js ks ls e f =
    ap₂ (λ (x y : List Item). let q : Copies = record { left = local c.memory c.holders c.outputs x; right = local d.memory d.holders d.outputs y } in q) (sym e) (sym f)

-- What an own move of u gives to all ------------------------------------------------------------------------------

module _ (p : Plain) (m1 m2 : List ℕ) (compatible : HasCompatibleModes p) (s1 s2 : Run) (u : ℕ) (u_in : u < length p.threads) (k : Paired p m1 m2 s1 s2)
    (owes : IsSecureMove p u (copies_of s1 s2 u) (after_move u own (copies_of s1 s2 u))) where
  leaves_left : (t : ℕ) → t < length p.threads → t ≢ u → MeetsAssumptions p t (local_of s1 t) (turned s1 u).memory (turned s1 u).holders (turned s1 u).outputs
  unfolding copies_of
  leaves_left t t_in d =
      record {
        memory = (sound_step p s1 u u_in k.left).memory;
        holders = (sound_step p s1 u u_in k.left).locks;
        outputs = (sound_step p s1 u u_in k.left).outputs;
        held = λ l. same_holder _ _ t u d (owes.left.held l);
        stable = λ x h. owes.left.kept x (λ w. compatible s1.holders t u x u_in d w h);
      }

  leaves_right : (t : ℕ) → t < length p.threads → t ≢ u → MeetsAssumptions p t (local_of s2 t) (turned s2 u).memory (turned s2 u).holders (turned s2 u).outputs
  unfolding copies_of
  leaves_right t t_in d =
      record {
        memory = (sound_step p s2 u u_in k.right).memory;
        holders = (sound_step p s2 u u_in k.right).locks;
        outputs = (sound_step p s2 u u_in k.right).outputs;
        held = λ l. same_holder _ _ t u d (owes.right.held l);
        stable = λ x h. owes.right.kept x (λ w. compatible s2.holders t u x u_in d w h);
      }

  lawful_for : (t : ℕ) → t < length p.threads → t ≢ u
      → IsLawfulOutside p t (copies_of s1 s2 t) (turned s1 u).memory (turned s1 u).holders (turned s1 u).outputs (turned s2 u).memory (turned s2 u).holders (turned s2 u).outputs
  unfolding copies_of
  lawful_for t t_in d =
      record { left = leaves_left t t_in d; right = leaves_right t t_in d; memories = owes.memories; outputs = owes.outputs; free_left = owes.free_left; free_right = owes.free_right }

  alike_at : (t : ℕ) → Dec (t ≡ u) → AreAlike (items_of (step s1 u) t) (items_of (step s2 u) t)
  unfolding copies_of
  alike_at t (yes e) = rw (e, items_same s1 u (turned s1 u) (rw k.left.threads u_in), items_same s2 u (turned s2 u) (rw k.right.threads u_in)) owes.items
  alike_at t (no d) = rw (items_other s1 t u (turned s1 u) d, items_other s2 t u (turned s2 u) d) (k.agree.threads t)

  -- t's game goes on with an outside move
  follows_other : (t : ℕ) → t < length p.threads → t ≢ u → Follows p m1 m2 s1 s2 t → Follows p m1 m2 (step s1 u) (step s2 u) t
  unfolding copies_of
  follows_other t t_in d f =
      let v : Move = outside (turned s1 u).memory (turned s1 u).holders (turned s1 u).outputs (turned s2 u).memory (turned s2 u).holders (turned s2 u).outputs in
      record {
        moves = v ∷ f.moves;
        lawful = (f.lawful, rw f.stands (lawful_for t t_in d));
        stands = ap (after_move t v) f.stands ∙ standing (turned s1 u) (turned s2 u) _ _ _ _ (items_other s1 t u (turned s1 u) d) (items_other s2 t u (turned s2 u) d);
      }

  follows_own : Follows p m1 m2 s1 s2 u → Follows p m1 m2 (step s1 u) (step s2 u) u
  unfolding copies_of
  follows_own f =
      let stood = standing (turned s1 u) (turned s2 u) _ _ _ _ (items_same s1 u (turned s1 u) (rw k.left.threads u_in)) (items_same s2 u (turned s2 u) (rw k.right.threads u_in)) in
      record { moves = own ∷ f.moves; lawful = (f.lawful, tt); stands = ap (after_move u own) f.stands ∙ stood }

-- what a secure thread owes at the place where the runs stand
owed : (p : Plain) (m1 m2 : List ℕ) → IsMemory (length p.vars) m1 → IsMemory (length p.vars) m2 → AreFitStarts p m1 m2
    → (s1 s2 : Run) (u : ℕ) → IsSecureThread p u → Follows p m1 m2 s1 s2 u
    → IsSecureMove p u (copies_of s1 s2 u) (after_move u own (copies_of s1 s2 u))
owed p m1 m2 a b st s1 s2 u secure f = subst (λ q. IsSecureMove p u q (after_move u own q)) f.stands (secure m1 m2 a b st f.moves f.lawful)

module _ (p : Plain) (m1 m2 : List ℕ) (a : IsMemory (length p.vars) m1) (b : IsMemory (length p.vars) m2) (st : AreFitStarts p m1 m2)
    (secure : (t : ℕ) → t < length p.threads → IsSecureThread p t) (compatible : HasCompatibleModes p) where
  paired_step : (s1 s2 : Run) (u : ℕ) → u < length p.threads → Paired p m1 m2 s1 s2 → Paired p m1 m2 (step s1 u) (step s2 u)
  unfolding copies_of
  paired_step s1 s2 u u_in k =
      record {
        left = sound_step p s1 u u_in k.left;
        right = sound_step p s2 u u_in k.right;
        agree = record { memories = owes.memories; outputs = owes.outputs; threads = λ t. alike_at p m1 m2 compatible s1 s2 u u_in k owes t (ℕ_discrete t u) };
        follows = λ t t_in. follows_at t t_in (ℕ_discrete t u);
      }
    where
      owes : IsSecureMove p u (copies_of s1 s2 u) (after_move u own (copies_of s1 s2 u))
      owes = owed p m1 m2 a b st s1 s2 u (secure u u_in) (k.follows u u_in)

      follows_at : (t : ℕ) → t < length p.threads → Dec (t ≡ u) → Follows p m1 m2 (step s1 u) (step s2 u) t
      follows_at t t_in (yes e) = rw e (follows_own p m1 m2 compatible s1 s2 u u_in k owes (k.follows u u_in))
      follows_at t t_in (no d) = follows_other p m1 m2 compatible s1 s2 u u_in k owes t t_in d (k.follows t t_in)

  paired_run : (s : List ℕ) (s1 s2 : Run) → IsSchedule (length p.threads) s → Paired p m1 m2 s1 s2
      → Paired p m1 m2 (run_from s1 s) (run_from s2 s)
  paired_run [] s1 s2 h k = k
  paired_run (u ∷ us) s1 s2 h k = paired_run us (step s1 u) (step s2 u) h.1 (paired_step s1 s2 u h.0 k)

-- The start ----------------------------------------------------------------------------------------------------

items_at_start : (p : Plain) (m : List ℕ) (t : ℕ) → items_of (begin p m) t ≡ items_then (thread_at p t).body []
items_at_start p m t = get_or-map (λ t. items_then t.body []) p.threads t no_thread

sound_start : (p : Plain) (m : List ℕ) → HasWordBodies p → IsMemory (length p.vars) m → Sound p (begin p m)
sound_start p m w a =
    record {
      memory = a;
      locks = length-replicate (length p.locks) None;
      threads = length-map p.threads _;
      outputs = tt;
      words = λ t. rw (items_at_start p m t) (items_words (thread_at p t).body [] (w t) tt);
    }

low_holds : (k : Class) (m : List ℕ) → is_low k ≡ true → Holds (class_term k) m
low_holds low m h = λ e. cc
low_holds high m h = absurd cc
low_holds (when e) m h = absurd cc

paired_start : (p : Plain) (m1 m2 : List ℕ) → HasWordBodies p → AreControlsLow p
    → IsMemory (length p.vars) m1 → IsMemory (length p.vars) m2 → AreFitStarts p m1 m2
    → Paired p m1 m2 (begin p m1) (begin p m2)
unfolding copies_of
paired_start p m1 m2 w low_controls a b st =
    record {
      left = sound_start p m1 w a;
      right = sound_start p m2 w b;
      agree = record {
        memories = record {
          holders = refl;
          controls = λ c h. st.low c (low_holds _ m1 (low_controls c h));
          visible = λ x l _. st.low x l;
        };
        outputs = refl;
        threads = λ t. refl;
      };
      follows = λ t t_in. record { moves = []; lawful = tt; stands = standing (local_of (begin p m1) t) (local_of (begin p m2) t) _ _ _ _ (items_at_start p m1 t) (items_at_start p m2 t) };
    }

pub compose : (p : Plain) → HasWordBodies p → AreControlsLow p
    → ((t : ℕ) → t < length p.threads → IsSecureThread p t) → HasCompatibleModes p → IsSecure p
compose p w low_controls secure compatible m1 m2 a b st s h =
    (paired_run p m1 m2 a b st secure compatible s (begin p m1) (begin p m2) h (paired_start p m1 m2 w low_controls a b st)).agree
