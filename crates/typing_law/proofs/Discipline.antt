-- Every run of a program whose statements keep the rules is disciplined.
use Rattle.std.proofs.Common.{◌≡◌, ◌≢◌, ◌⊎◌, ℕ, zero, suc, ◌+◌, ◌<◌, ◌≤◌, not, List, [], ◌∷◌, ◌++◌, length, get_or, set, replicate, Bool, true, false, inl, inr, Option, Some, None, refl, sym, ◌∙◌, ap, subst, arith, IsTrue, if◌then◌else◌, cond, count_by, zero-add, length-set, get_or-set_same, get_or-set_other}
use Rattle.std.proofs.Math.Decide.{ℕ_discrete}
use Rattle.std.specs.Option.{ForSome}
use Rattle.std.specs.Prelude.{All, AllPairs, IfSome}
use Rattle.std.proofs.lemmas.Bool.{leb-true, false_from_ne_true, ne_eqb, cases_lt}
use Rattle.std.proofs.lemmas.List.{get_or-map, get_or_past, length-map, length-replicate}
use Rattle.std.proofs.lemmas.List.Kept.{AllPairs-cons}
use Rattle.std.proofs.lemmas.List.Sums.{sum_by-append}
use Rattle.cov_expr.specs.Term.{Term, value, is_set}
use Rattle.cov_expr.specs.Trees.{occurrences, width}
use Rattle.cov_expr.specs.Words.{IsSchedule}
use Rattle.cov_ast.specs.Declarations.{no_thread}
use Rattle.cov_ast.specs.Plain.{Cmd, assign, branch, loop, output, Cmds, none, next, ◌then_all◌, Plain, plain, plain_block, plain_thread}
use Rattle.cov_ast.specs.LocksAlong.{locks_after}
use Rattle.cov_ast.specs.Syntax.{Program}
use Rattle.cov_ast.specs.Obligations.{all_hold}
use Rattle.cov_ast.specs.Tables.{has}
use Rattle.cov_ast.specs.WellFormed.{IsWellFormed}
use Rattle.cov_ast.proofs.ObligationLaws.{both_hold}
use Rattle.flow_model.specs.Source.{Item, run, put, test, emit, Holders, holder, Outputs, Local, local, items_then, turn, is_held_by, Run, items_of, run_from, step, begin, after}
use Rattle.flow_model.specs.Composable.{HasCompatibleModes}
use Rattle.flow_model.specs.Holdings.{IsStableNow, IsWritableNow}
use Rattle.flow_model.specs.Agreement.{SameAt}
use Rattle.mode_state.specs.Sets.{is_stable, may_write}
use Rattle.mode_compat.specs.Compatible.{numbered}
use Rattle.mode_compat.specs.Compatible as rules
use Rattle.mode_compat.specs.HeldSets.{AreHeldBy, AreSetsOf}
use Rattle.point_law.specs.After.{start}
use Rattle.typing_law.specs.ThreadObligations.{thread_obligations, block_obligations, end_obligation, end_point}
use Rattle.typing_law.specs.Accepted.{IsAccepted}
use Rattle.typing_law.specs.Disciplined.{held_at, held_in_front_of, evaluated_expression, IsEvaluable, IsDisciplinedAt, IsDisciplined}
use Rattle.typing_law.proofs.Parts.{thread_holds}
use Rattle.typing_law.proofs.Placed.{Reads, PlacedCmd, Placed, placed_block}
use Rattle.typing_law.proofs.Soundness.Fits.{ChangesOwn, Turned, waits, proceeds}
use Rattle.typing_law.proofs.Soundness.Others.{HeldBehind, turn_keeps}
use Rattle.typing_law.proofs.Soundness.Sound.{block_sized}
use Rattle.typing_law.proofs.Places.{places_found}

-- Expressions ----------------------------------------------------------------------------------------------------

counted : (f : ℕ → Bool) (x : ℕ) (xs : List ℕ) → count_by f (x ∷ xs) ≡ cond (f x) 1 0 + count_by f xs
counted f x xs = sum_by-append (λ y. cond (f y) 1 0) (x ∷ []) xs ∙ ap (λ k. k + count_by f xs) (zero-add (cond (f x) 1 0))

counted_more : (f : ℕ → Bool) (x : ℕ) (xs : List ℕ) → f x ≡ true → count_by f (x ∷ xs) ≡ 1 + count_by f xs
counted_more f x xs i = counted f x xs ∙ ap (λ b. cond b 1 0 + count_by f xs) i

-- where at most one of a list passes, no two do
none_passes : (f : ℕ → Bool) (xs : List ℕ) → count_by f xs ≤ 0 → All (λ x. f x ≡ true → ⊥) xs
none_passes f [] h k d lt i = omega arith
none_passes f (x ∷ xs) h zero d lt i = omega (arith, h, counted_more f x xs i)
none_passes f (x ∷ xs) h (suc k) d lt i = none_passes f xs (omega (arith, h, counted f x xs)) k d (omega arith) i

few_pass : (f : ℕ → Bool) (xs : List ℕ) → count_by f xs ≤ 1 → AllPairs (λ x y. f x ≡ true → f y ≡ true → ⊥) xs
few_pass f [] h = λ i j d lt inside. absurd (omega arith)
few_pass f (x ∷ xs) h =
    AllPairs-cons (λ x y. f x ≡ true → f y ≡ true → ⊥) x xs (λ k d lt i. none_passes f xs (omega (arith, h, counted_more f x xs i)) k d lt)
    (few_pass f xs (omega (arith, h, counted f x xs)))

evaluable : (p : Plain) (h : Holders) (t : ℕ) (H : List Bool) → AreSetsOf p h t H → (e : Term) → Reads p t H e → IsEvaluable p h t e
evaluable p h t H sets e k = record {
  narrow = leb-true (width e) 7 k.narrow;
  one_unstable = λ i j d lt inside u v.
      few_pass (λ x. not (is_stable p t H x)) (occurrences e) (leb-true _ 1 k.one_unstable) i j d lt inside (unstable _ u) (unstable _ v);
}
  where
    unstable : (x : ℕ) → ¬ IsStableNow p h t x → not (is_stable p t H x) ≡ true
    unstable x n = ap not (false_from_ne_true (is_stable p t H x) (λ e. n ((sets.stable x).0 e)))

for_some : (o : Option Term) (P : Term → Type 0) → IfSome o P → ForSome o P
for_some None P k e h = cc
for_some (Some d) P k e h = let same : d ≡ e = cc in subst P same k

-- Held locks -----------------------------------------------------------------------------------------------------

-- others hold what they held
others_keep : (t : ℕ) (h k : Holders) → ChangesOwn t h k → (u : ℕ) → u ≢ t → (l : ℕ) → is_held_by (holder k l) u ≡ is_held_by (holder h l) u
others_keep t h k own u d l = go (own l)
  where
    another : is_held_by (Some t) u ≡ false
    another = ne_eqb t u (λ i. d (sym i))

    go : (holder k l ≡ holder h l) ⊎ ((holder h l ≡ None) × (holder k l ≡ Some t)) ⊎ ((holder h l ≡ Some t) × (holder k l ≡ None))
        → is_held_by (holder k l) u ≡ is_held_by (holder h l) u
    go (inl e) = ap (λ (q : Option ℕ). is_held_by q u) e
    go (inr (inl e)) = ap (λ (q : Option ℕ). is_held_by q u) e.1 ∙ another ∙ sym (ap (λ (q : Option ℕ). is_held_by q u) e.0)
    go (inr (inr e)) = ap (λ (q : Option ℕ). is_held_by q u) e.1 ∙ sym another ∙ sym (ap (λ (q : Option ℕ). is_held_by q u) e.0)

-- One thread -----------------------------------------------------------------------------------------------------

module _ (p : Plain) (t : ℕ) (at_place : ℕ → List Bool) where
  abbrev PlacedItems : List Item → List Bool → Type 0
  PlacedItems [] H = (l : ℕ) → has H l ≡ false
  PlacedItems (run at c ∷ is) H = (M : List Bool) × (at_place at ≡ H) × PlacedCmd p t at_place c H M × PlacedItems is M
  PlacedItems (put at x w ∷ is) H = ⊥
  PlacedItems (test at w a b ∷ is) H = ⊥
  PlacedItems (emit at w ∷ is) H = ⊥

  -- what is left of the thread, where it holds these locks
  abbrev IsLeft : List Item → List Bool → Type 0
  IsLeft (put at x w ∷ is) H = (at_place at ≡ H) × IsTrue (may_write p t H x) × PlacedItems is H
  IsLeft (test at w a b ∷ is) H = (at_place at ≡ H) × PlacedItems (items_then a is) H × PlacedItems (items_then b is) H
  IsLeft (emit at w ∷ is) H = (at_place at ≡ H) × PlacedItems is H
  IsLeft is H = PlacedItems is H

  left : (is : List Item) (H : List Bool) → PlacedItems is H → IsLeft is H
  left [] H k = k
  left (run at c ∷ is) H k = k
  left (put at x w ∷ is) H k = absurd k
  left (test at w a b ∷ is) H k = absurd k
  left (emit at w ∷ is) H k = absurd k

  placed_then : (c : Cmds) (is : List Item) (H K : List Bool) → Placed p t at_place c H K → PlacedItems is K → PlacedItems (items_then c is) H
  placed_then none is H K k n = subst (PlacedItems is) (sym k) n
  placed_then (next at c cs) is H K k n = (k.0, k.1, k.2, placed_then cs is k.0 K k.3 n)

  placed_append : (c d : Cmds) (H K L : List Bool) → Placed p t at_place c H K → Placed p t at_place d K L → Placed p t at_place (◌then_all◌ c d) H L
  placed_append none d H K L k n = subst (λ M. Placed p t at_place d M L) (sym k) n
  placed_append (next at c cs) d H K L k n = (k.0, k.1, k.2, placed_append cs d k.0 K L k.3 n)

  -- a thread in a state
  record Stands (h : Holders) (is : List Item) : Type 0 where
    held : List Bool
    sized : length held ≡ length p.locks
    by : AreHeldBy h t held
    rest : IsLeft is held

  -- What a step of the thread leaves as it was: words that aren't writable for it, the locks of others, and how many locks
  -- there are.
  record Leaves (m : List ℕ) (h : Holders) (r : Local) : Type 0 where
    words : (x : ℕ) → ¬ IsWritableNow p h t x → SameAt r.memory m x
    others : (u : ℕ) → u ≢ t → (l : ℕ) → is_held_by (holder r.holders l) u ≡ is_held_by (holder h l) u
    locks : length r.holders ≡ length h

  abbrev Goes : List ℕ → Holders → Local → Type 0
  Goes m h r = Stands r.holders r.items × Leaves m h r

  -- memory and holders stay
  still : (m : List ℕ) (h : Holders) (said : Outputs) (is : List Item) (H : List Bool) → length H ≡ length p.locks → AreHeldBy h t H → IsLeft is H
      → Goes m h (local m h said is)
  still m h said is H n held k =
      (record { held = H; sized = n; by = held; rest = k }, record { words = λ x w. refl; others = λ u d l. refl; locks = refl })

  -- a statement that evaluates nothing
  own_done : (m : List ℕ) (h : Holders) (said : Outputs) (at : ℕ) (c : Cmd) (is : List Item) (H : List Bool) → length H ≡ length p.locks → AreHeldBy h t H
      → (k : PlacedItems (run at c ∷ is) H) → locks_after c H ≡ k.0 → Turned t c h (λ g. HeldBehind t h g H (locks_after c H))
      → Goes m h (turn t m h said (run at c ∷ is))
  own_done m h said at c is H n held k behind (waits same) = subst (Goes m h) (sym (same m said at is)) (still m h said (run at c ∷ is) H n held k)
  own_done m h said at c is H n held k behind (proceeds g same own r) =
      subst (Goes m h) (sym (same m said at is)) (
        record {
          held = locks_after c H;
          sized = r.sized ∙ n;
          by = r.by;
          rest = left is (locks_after c H) (subst (PlacedItems is) (sym behind) k.3);
        },
        record { words = λ x w. refl; others = others_keep t h g own; locks = r.holders },
      )

  -- others keep what the thread holds
  stays : (h h' : Holders) (is : List Item) → ((l : ℕ) → is_held_by (holder h' l) t ≡ is_held_by (holder h l) t) → Stands h is → Stands h' is
  stays h h' is same k = record { held = k.held; sized = k.sized; by = λ l. k.by l ∙ sym (same l); rest = k.rest }

  -- a word is stored
  stored : (m : List ℕ) (h : Holders) (x w : ℕ) → IsWritableNow p h t x → (y : ℕ) → ¬ IsWritableNow p h t y → SameAt (set m x w) m y
  stored m h x w k y n = go (ℕ_discrete y x)
    where
      go : Dec (y ≡ x) → SameAt (set m x w) m y
      go (yes e) = absurd (n (subst (IsWritableNow p h t) (sym e) k))
      go (no d) = get_or-set_other m x y w 0 d

  module _ (sets : (h : Holders) (H : List Bool) → AreHeldBy h t H → AreSetsOf p h t H) where
    own_turn : (m : List ℕ) (h : Holders) (said : Outputs) (is : List Item) (H : List Bool) → length h ≡ length p.locks → length H ≡ length p.locks
        → AreHeldBy h t H → IsLeft is H → Goes m h (turn t m h said is)
    own_turn m h said [] H nh nH held k = still m h said [] H nH held k
    own_turn m h said (run at (assign x e) ∷ is) H nh nH held k =
        still m h said (put at x (value e m) ∷ is) H nH held (k.1, k.2.writes, subst (PlacedItems is) (sym k.2.inside) k.3)
    own_turn m h said (run at (branch e a b) ∷ is) H nh nH held k =
        still m h said (test at (value e m) a b ∷ is) H nH held (k.1, placed_then a is H k.0 k.2.inside.0 k.3, placed_then b is H k.0 k.2.inside.1 k.3)
    own_turn m h said (run at (loop e a) ∷ is) H nh nH held k =
        let again : Cmds = next at (loop e a) none in
        let rest : PlacedItems is H = subst (PlacedItems is) (sym k.2.inside.1) k.3 in
        let once_more : Placed p t at_place again H H = (H, k.1, record { writes = tt; reads = k.2.reads; inside = (k.2.inside.0, refl) }, refl) in
        let body : Placed p t at_place (◌then_all◌ a again) H H = placed_append a again H H H k.2.inside.0 once_more in
        still m h said (test at (value e m) (◌then_all◌ a again) none ∷ is) H nH held (k.1, placed_then (◌then_all◌ a again) is H H body rest, rest)
    own_turn m h said (run at (output e) ∷ is) H nh nH held k =
        still m h said (emit at (value e m) ∷ is) H nH held (k.1, subst (PlacedItems is) (sym k.2.inside) k.3)
    own_turn m h said (run at c ∷ is) H nh nH held k =
        own_done m h said at c is H nH held k k.2.inside (turn_keeps t c refl h H (nh ∙ sym nH) held)
    own_turn m h said (put at x w ∷ is) H nh nH held k = (
      record { held = H; sized = nH; by = held; rest = left is H k.2 },
      record {
        words = stored m h x w (((sets h H held).writable x).0 k.1);
        others = λ u d l. refl;
        locks = refl;
      },
    )
    own_turn m h said (test at w a b ∷ is) H nh nH held k =
        elim (is_set w) as (λ (o : Bool). Goes m h (local m h said (items_then (if o then a else b) is))) [
          | true ↦ still m h said (items_then a is) H nH held (left (items_then a is) H k.1)
          | false ↦ still m h said (items_then b is) H nH held (left (items_then b is) H k.2)
        ]
    own_turn m h said (emit at w ∷ is) H nh nH held k = still m h (said ++ w ∷ []) is H nH held (left is H k.1)

    evaluates : (h : Holders) (is : List Item) (H : List Bool) → AreHeldBy h t H → IsLeft is H → IfSome (evaluated_expression is) (IsEvaluable p h t)
    evaluates h (run at c ∷ is) H held k = all_evaluable (evaluated_expression (run at c ∷ is)) k.2.reads
      where
        all_evaluable : (o : Option Term) → IfSome o (Reads p t H) → IfSome o (IsEvaluable p h t)
        all_evaluable None r = tt
        all_evaluable (Some e) r = evaluable p h t H (sets h H held) e r
    evaluates h _ H held k = tt

-- Runs -----------------------------------------------------------------------------------------------------------

holds_locks : (p : Program) (h : Holders) (t : ℕ) (is : List Item) (H : List Bool) → AreHeldBy h t H → IsLeft (plain p) t (held_at p t) is H
    → AreHeldBy h t (held_in_front_of p t is)
holds_locks p h t [] H held k = λ l. sym (k l) ∙ held l
holds_locks p h t (run at c ∷ is) H held k = subst (AreHeldBy h t) (sym k.1) held
holds_locks p h t (put at x w ∷ is) H held k = subst (AreHeldBy h t) (sym k.0) held
holds_locks p h t (test at w a b ∷ is) H held k = subst (AreHeldBy h t) (sym k.0) held
holds_locks p h t (emit at w ∷ is) H held k = subst (AreHeldBy h t) (sym k.0) held

abbrev turned : Run → ℕ → Local
turned s t = turn t s.memory s.holders s.outputs (items_of s t)

-- What is told of the locks that a thread holds says what is stable and writable for it.
abbrev pub AreSets : Program → Type 0
AreSets p = (h : Holders) (t : ℕ) (H : List Bool) → AreHeldBy h t H → AreSetsOf (plain p) h t H

module _ (p : Program) where
  abbrev StandsIn : Run → ℕ → Type 0
  StandsIn s t = Stands (plain p) t (held_at p t) s.holders (items_of s t)

  record Keeps (s : Run) : Type 0 where
    locks : length s.holders ≡ length p.locks
    threads : length s.items ≡ length (plain p).threads
    stands : (t : ℕ) → t < length (plain p).threads → StandsIn s t

  module _ (sets : AreSets p) where
    goes : (s : Run) → Keeps s → (t : ℕ) → t < length (plain p).threads → Goes (plain p) t (held_at p t) s.memory s.holders (turned s t)
    goes s k t inside =
        let stand = k.stands t inside in
        own_turn (plain p) t (held_at p t) (λ h H. sets h t H) s.memory s.holders s.outputs (items_of s t) stand.held k.locks stand.sized stand.by stand.rest

    keeps_step : (s : Run) (u : ℕ) → u < length (plain p).threads → Keeps s → Keeps (step s u)
    keeps_step s u inside k =
        record {
          locks = (goes s k u inside).1.locks ∙ k.locks;
          threads = length-set s.items u (turned s u).items ∙ k.threads;
          stands = λ t t_in. at t t_in (ℕ_discrete t u);
        }
      where
        at : (t : ℕ) → t < length (plain p).threads → Dec (t ≡ u) → StandsIn (step s u) t
        at t t_in (yes e) =
            subst (StandsIn (step s u)) (sym e)
            (subst (λ is. Stands (plain p) u (held_at p u) (turned s u).holders is)
            (sym (get_or-set_same s.items u (turned s u).items [] (rw k.threads inside))) (goes s k u inside).0)
        at t t_in (no n) =
            subst (λ is. Stands (plain p) t (held_at p t) (turned s u).holders is) (sym (get_or-set_other s.items u t (turned s u).items [] n))
            (stays (plain p) t (held_at p t) s.holders (turned s u).holders (items_of s t)
            (λ l. (goes s k u inside).1.others t n l) (k.stands t t_in))

    keeps_run : (us : List ℕ) (s : Run) → IsSchedule (length (plain p).threads) us → Keeps s → Keeps (run_from s us)
    keeps_run [] s h k = k
    keeps_run (u ∷ us) s h k = keeps_run us (step s u) h.1 (keeps_step s u h.0 k)

    disciplined_at : HasCompatibleModes (plain p) → (s : Run) → Keeps s → (t : ℕ) → t < length (plain p).threads → IsDisciplinedAt p s t
    disciplined_at apart s k t inside =
        let stand = k.stands t inside in
        record {
          locks = holds_locks p s.holders t (items_of s t) stand.held stand.by stand.rest;
          evaluates = for_some (evaluated_expression (items_of s t)) (IsEvaluable (plain p) s.holders t)
              (evaluates (plain p) t (held_at p t) (λ h H. sets h t H) s.holders (items_of s t) stand.held stand.by stand.rest);
          spares = λ u x u_in d stable. (goes s k t inside).1.words x (λ w. apart s.holders u t x inside d w stable);
        }

-- The start ------------------------------------------------------------------------------------------------------

replicated : {X : Type 0} (n i : ℕ) (x : X) → get_or (replicate n x) i x ≡ x
replicated zero i x = refl
replicated (suc n) zero x = refl
replicated (suc n) (suc i) x = replicated n i x

module _ (p : Program) (formed : IsWellFormed p) (accepted : IsAccepted p)
    (ends : (t l : ℕ) → IsTrue (all_hold (thread_obligations p t)) → l < length p.locks → has (end_point p t).held l ≡ false) where
  body_placed : (t : ℕ) → t < length p.threads
      → Placed (plain p) t (held_at p t) (plain_block (numbered p t).body) (start (plain p) t).held (end_point p t).held
  body_placed t inside =
      let body = (numbered p t).body in
      placed_block (plain p) t (held_at p t) body (start (plain p) t) (length-replicate (length p.locks) false)
      (formed.ids.of_threads t rules.no_thread inside).body
      (both_hold (block_obligations (plain p) t body (start (plain p) t)) (end_obligation (plain p) t (numbered p t).end (end_point p t).held ∷ [])
      (thread_holds p accepted t inside)).0
      (places_found p formed t inside)

  free_at_end : (t : ℕ) → t < length p.threads → (l : ℕ) → has (end_point p t).held l ≡ false
  free_at_end t inside l = elim (cases_lt l (length p.locks)) [
    | inl lt ↦ ends t l (thread_holds p accepted t inside) lt
    | inr past ↦ get_or_past (end_point p t).held l false (omega (arith, past, sized))
  ]
    where
      sized : length (end_point p t).held ≡ length p.locks
      sized = block_sized (plain p) t (numbered p t).body (start (plain p) t) ∙ length-replicate (length p.locks) false

  items_at_start : (m : List ℕ) (t : ℕ) → t < length p.threads → items_of (begin (plain p) m) t ≡ items_then (plain_block (numbered p t).body) []
  items_at_start m t inside =
      get_or-map (λ t. items_then t.body []) (plain p).threads t no_thread (items_then no_thread.body []) (omega (arith, inside, length-map p.threads plain_thread))
      ∙ ap (λ th. items_then th.body []) (get_or-map plain_thread p.threads t rules.no_thread no_thread inside)

  keeps_start : (m : List ℕ) → Keeps p (begin (plain p) m)
  keeps_start m =
      record {
        locks = length-replicate (length p.locks) None;
        threads = length-map (plain p).threads (λ t. items_then t.body []);
        stands = λ t t_in. stands t (omega (arith, t_in, length-map p.threads plain_thread));
      }
    where
      stands : (t : ℕ) → t < length p.threads → StandsIn p (begin (plain p) m) t
      stands t inside =
          let items = items_then (plain_block (numbered p t).body) [] in
          let H = (start (plain p) t).held in
          let placed = placed_then (plain p) t (held_at p t) (plain_block (numbered p t).body) [] H (end_point p t).held (body_placed t inside) (free_at_end t inside) in
          subst (λ is. Stands (plain p) t (held_at p t) (begin (plain p) m).holders is) (sym (items_at_start m t inside))
          (record {
            held = H;
            sized = length-replicate (length p.locks) false;
            by = λ l. replicated (length p.locks) l false ∙ sym (ap (λ (o : Option ℕ). is_held_by o t) (replicated (length p.locks) l None));
            rest = left (plain p) t (held_at p t) items H placed;
          })

  pub disciplined : AreSets p → HasCompatibleModes (plain p) → IsDisciplined p
  disciplined sets apart m words us h t inside =
      disciplined_at p sets apart (after (plain p) m us) (keeps_run p sets us (begin (plain p) m) h (keeps_start m)) t inside
