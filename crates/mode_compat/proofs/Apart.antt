-- Why what one thread may write is disjoint from what another has stable.
use Rattle.std.proofs.Common.{◌≡◌, ◌≢◌, ℕ, zero, suc, ◌+◌, ◌<◌, ◌≤◌, ◌==◌, ◌||◌, ◌&&◌, not, List, [], ◌∷◌, ◌++◌, length, map, Bool, true, false, refl, sym, ◌∙◌, ap, subst, arith, IsTrue, inl, inr, ◌⊎◌, Option, Some, None, cond, if◌then◌else◌}
use Rattle.std.specs.List.{flat_map, list_any, list_all, range_with_len}
use Rattle.std.proofs.lemmas.Bool.{true≢false, and_parts, or_cases, eqb-true, eq-eqb, cases_Bool, ne_eqb, cases_lt, and_from, not-true}
use Rattle.std.proofs.lemmas.List.{get_or-map, length-map, get_or_past, append-nil, append_assoc}
use Rattle.std.proofs.lemmas.Option.{same_Some}
use Rattle.mode_state.proofs.HeldLaws.{any_from, all_from}
use Rattle.std.proofs.lemmas.List.Folds.{list_all-append, list_any-append}
use Rattle.std.proofs.Math.Bool.{or-true}
use Rattle.cov_expr.specs.Trees.{has_number, add_new}
use Rattle.cov_expr.proofs.Tests.{passing, each_below}
use Rattle.cov_ast.specs.Syntax.{Program}
use Rattle.cov_ast.specs.Plain.{Plain, plain, plain_thread}
use Rattle.cov_ast.specs.Declarations.{modes_of, no_thread, assumes, assumes_hide, guarantees, guarantees_hide, have_guaranteed, have_assumed, under, lists, no_lock}
use Rattle.cov_ast.specs.Tables.{has}
use Rattle.cov_ast.specs.Obligations.{Obligation, all_hold, distinct}
use Rattle.cov_ast.proofs.ObligationLaws.{both_hold}
use Rattle.flow_model.specs.Composable.{HasCompatibleModes}
use Rattle.flow_model.specs.Source.{Holders, holder, is_held_by}
use Rattle.flow_model.specs.Holdings.{IsStableNow, IsWritableNow}
use Rattle.flow_model.proofs.Holders.{held_is, is_held}
use Rattle.mode_state.specs.Sets.{is_stable, may_write, locks_of}
use Rattle.policy_class.specs.Policy.{policy_obligations}
use Rattle.lock_spec.specs.Locks.{lock_obligations}
use Rattle.mode_compat.specs.Compatible.{mode_obligations, w6_obligations, w7_obligations, w8_obligations, w9_obligations, w9_pair, w9_obligation, threads_of, numbered}
use Rattle.mode_compat.specs.Compatible as rules
use Rattle.mode_compat.specs.Declared.{declaration_obligations}
use Rattle.mode_compat.specs.HeldSets.{AreHeldBy, AreSetsOf}

-- Obligations that all hold ------------------------------------------------------------------------------------

-- of a number that is listed
number_holds : (g : ℕ → List Obligation) (xs : List ℕ) (x : ℕ) → IsTrue (all_hold (flat_map g xs)) → has_number xs x ≡ true → IsTrue (all_hold (g x))
number_holds g [] x h k = absurd (true≢false (sym k))
number_holds g (y ∷ ys) x h k =
    let parts = both_hold (g y) (flat_map g ys) h in
    elim (or_cases (y == x) (has_number ys x) k) [
      | inl e ↦ subst (λ z. IsTrue (all_hold (g z))) (eqb-true y x e) parts.0
      | inr e ↦ number_holds g ys x parts.1 e
    ]

-- one obligation for each number
obligation_holds : (f : ℕ → Obligation) (xs : List ℕ) (x : ℕ) → IsTrue (all_hold (map f xs)) → has_number xs x ≡ true → (f x).holds ≡ true
obligation_holds f [] x h k = absurd (true≢false (sym k))
obligation_holds f (y ∷ ys) x h k =
    let parts = and_parts (f y).holds (all_hold (map f ys)) h in
    elim (or_cases (y == x) (has_number ys x) k) [
      | inl e ↦ subst (λ z. (f z).holds ≡ true) (eqb-true y x e) parts.0
      | inr e ↦ obligation_holds f ys x parts.1 e
    ]

in_range : (a n x : ℕ) → a ≤ x → x < a + n → has_number (range_with_len a n) x ≡ true
in_range a zero x from to = absurd (omega arith)
in_range a (suc n) x from to =
    elim (cases_lt a x) [
      | inl lt ↦ ap (λ b. (a == x) || b) (in_range (a + 1) n x (omega arith) (omega arith)) ∙ or-true (a == x)
      | inr ge ↦ let e : a ≡ x = omega arith in ap (λ b. b || has_number (range_with_len (a + 1) n) x) (eq-eqb a x e)
    ]

-- Lists without repeats ----------------------------------------------------------------------------------------

in_added : (xs ys : List ℕ) (x : ℕ) → has_number (xs ++ ys) x ≡ true → has_number (add_new xs ys) x ≡ true
in_added xs [] x h = subst (λ zs. has_number zs x ≡ true) (append-nil xs) h
in_added xs (y ∷ ys) x h = go (λ zs k. in_added zs ys x k) (has_number xs y) refl
  where
    go : ((zs : List ℕ) → has_number (zs ++ ys) x ≡ true → has_number (add_new zs ys) x ≡ true) → (b : Bool) → has_number xs y ≡ b
        → has_number (add_new (cond b xs (xs ++ y ∷ [])) ys) x ≡ true
    go rest true there = rest xs (elim (or_cases (has_number xs x) (has_number (y ∷ ys) x) (sym (list_any-append (λ z. z == x) xs (y ∷ ys)) ∙ h)) [
      | inl e ↦ list_any-append (λ z. z == x) xs ys ∙ ap (λ b. b || has_number ys x) e
      | inr e ↦ elim (or_cases (y == x) (has_number ys x) e) [
        | inl f ↦ list_any-append (λ z. z == x) xs ys ∙ ap (λ b. b || has_number ys x) (subst (λ z. has_number xs z ≡ true) (eqb-true y x f) there)
        | inr f ↦ list_any-append (λ z. z == x) xs ys ∙ ap (λ b. has_number xs x || b) f ∙ or-true (has_number xs x)
      ]
    ])
    go rest false new = rest (xs ++ y ∷ []) (subst (λ zs. has_number zs x ≡ true) (sym (append_assoc xs (y ∷ []) ys)) h)

pub in_distinct : (xs : List ℕ) (x : ℕ) → has_number xs x ≡ true → has_number (distinct xs) x ≡ true
in_distinct xs x h = in_added [] xs x h

-- What one thread assumes, another guarantees -------------------------------------------------------------------

-- a thread past the end assumes nothing
assuming_is_declared : (p : Plain) (t x : ℕ) → IsTrue (assumes p t x) → t < length p.threads
assuming_is_declared p t x h = elim (cases_lt t (length p.threads)) [
  | inl lt ↦ lt
  | inr past ↦ absurd (true≢false (sym h ∙ ap (λ th. have_assumed th.modes x) (get_or_past p.threads t no_thread past)))
]

numbered_modes : (p : Program) (t : ℕ) → t < length p.threads → modes_of (plain p) t ≡ (numbered p t).modes
numbered_modes p t lt = ap (λ th. th.modes) (get_or-map plain_thread p.threads t rules.no_thread no_thread lt)

module _ (p : Program) (h : IsTrue (all_hold (declaration_obligations p))) where
  w9 : IsTrue (all_hold (flat_map (w9_obligations p) (threads_of p)))
  w9 =
      let modes = (both_hold (policy_obligations p ++ lock_obligations p) (mode_obligations p) h).1 in
      (both_hold (flat_map (w6_obligations p) p.threads ++ flat_map (w7_obligations p) p.locks ++ flat_map (w8_obligations p) p.threads)
      (flat_map (w9_obligations p) (threads_of p)) modes).1

  pair_holds : (t u : ℕ) → t < length p.threads → u < length p.threads → t ≢ u → IsTrue (all_hold (w9_pair p (numbered p t) (numbered p u)))
  pair_holds t u lt ku ne =
      let each = number_holds (w9_obligations p) (threads_of p) t w9 (in_range 0 (length p.threads) t (omega arith) (omega arith)) in
      let one : IsTrue (all_hold (if t == u then [] else w9_pair p (numbered p t) (numbered p u))) =
      number_holds (λ v. if t == v then [] else w9_pair p (numbered p t) (numbered p v)) (threads_of p) u each
      (in_range 0 (length p.threads) u (omega arith) (omega arith)) in
      subst (λ b. IsTrue (all_hold (cond b [] (w9_pair p (numbered p t) (numbered p u))))) (ne_eqb t u ne) one

  pub met_hide : (t u x : ℕ) → u < length p.threads → t ≢ u → t < length p.threads → IsTrue (assumes_hide (plain p) t x) → IsTrue (guarantees_hide (plain p) u x)
  met_hide t u x ku ne lt a =
      let e1 : ℕ → Obligation = λ y. w9_obligation p (numbered p t) (numbered p u) y (have_guaranteed (numbered p u).modes y) in
      let e2 : ℕ → Obligation = λ y. w9_obligation p (numbered p t) (numbered p u) y (has_number (numbered p u).modes.guarantee_hide y) in
      let parts = both_hold (map e1 (distinct (numbered p t).modes.assume_nowrite)) (map e2 (distinct (numbered p t).modes.assume_hide)) (pair_holds t u lt ku ne) in
      ap (λ m. has_number m.guarantee_hide x) (numbered_modes p u ku)
      ∙ obligation_holds e2 (distinct (numbered p t).modes.assume_hide) x parts.1
      (in_distinct (numbered p t).modes.assume_hide x (sym (ap (λ m. has_number m.assume_hide x) (numbered_modes p t lt)) ∙ a))

  met_nowrite : (t u x : ℕ) → u < length p.threads → t ≢ u → t < length p.threads → has_number (modes_of (plain p) t).assume_nowrite x ≡ true → IsTrue (guarantees (plain p) u x)
  met_nowrite t u x ku ne lt a =
      let e1 : ℕ → Obligation = λ y. w9_obligation p (numbered p t) (numbered p u) y (have_guaranteed (numbered p u).modes y) in
      let e2 : ℕ → Obligation = λ y. w9_obligation p (numbered p t) (numbered p u) y (has_number (numbered p u).modes.guarantee_hide y) in
      let parts = both_hold (map e1 (distinct (numbered p t).modes.assume_nowrite)) (map e2 (distinct (numbered p t).modes.assume_hide)) (pair_holds t u lt ku ne) in
      ap (λ m. have_guaranteed m x) (numbered_modes p u ku)
      ∙ obligation_holds e1 (distinct (numbered p t).modes.assume_nowrite) x parts.0
      (in_distinct (numbered p t).modes.assume_nowrite x (sym (ap (λ m. has_number m.assume_nowrite x) (numbered_modes p t lt)) ∙ a))

  pub met : (t u x : ℕ) → u < length p.threads → t ≢ u → IsTrue (assumes (plain p) t x) → IsTrue (guarantees (plain p) u x)
  met t u x ku ne a =
      let lt : t < length p.threads = omega (arith, assuming_is_declared (plain p) t x a, length-map p.threads plain_thread) in
      elim (or_cases (has_number (modes_of (plain p) t).assume_nowrite x) (assumes_hide (plain p) t x) a) [
        | inl e ↦ met_nowrite t u x ku ne lt e
        | inr e ↦ ap (λ b. has_number (modes_of (plain p) u).guarantee_nowrite x || b) (met_hide t u x ku ne lt e)
            ∙ or-true (has_number (modes_of (plain p) u).guarantee_nowrite x)
      ]

  pub disjoint : HasCompatibleModes (plain p)
  disjoint hs t u x ku ne w s =
      let inside : u < length p.threads = omega (arith, ku, length-map p.threads plain_thread) in
      elim s [
        | inl a ↦ true≢false (sym (met t u x inside ne a) ∙ w.allowed)
        | inr s ↦ let same : ◌≡◌ {A = Option ℕ} (Some t) (Some u) = sym s.1 ∙ w.held s.0 s.2 in ne (same_Some t u same)
      ]

-- The sets of a thread that holds locks -------------------------------------------------------------------------

-- a lock past the end lists nothing
pub listing_is_declared : (p : Plain) (l x : ℕ) → IsTrue (under p l x) → l < length p.locks
listing_is_declared p l x h = elim (cases_lt l (length p.locks)) [
  | inl lt ↦ lt
  | inr past ↦ absurd (true≢false (sym h ∙ ap (λ k. lists k x) (get_or_past p.locks l no_lock past)))
]

module _ (p : Plain) (h : Holders) (t : ℕ) (held : List Bool) (fits : AreHeldBy h t held) where
  stable_now : (x : ℕ) → IsTrue (is_stable p t held x) → IsStableNow p h t x
  stable_now x s = elim (or_cases (assumes p t x) (list_any (λ l. has held l && under p l x) (locks_of p)) s) [
    | inl a ↦ inl a
    | inr e ↦ let lock = passing (λ l. has held l && under p l x) 0 (length p.locks) e in
        let parts = and_parts (has held lock.0) (under p lock.0 x) lock.1 in
        inr (lock.0, held_is (holder h lock.0) t (sym (fits lock.0) ∙ parts.0), parts.1)
  ]

  now_stable : (x : ℕ) → IsStableNow p h t x → IsTrue (is_stable p t held x)
  now_stable x (inl a) = ap (λ b. b || list_any (λ l. has held l && under p l x) (locks_of p)) a
  now_stable x (inr s) =
      ap (λ b. assumes p t x || b)
      (any_from (λ l. has held l && under p l x) 0 (length p.locks) s.0 (omega arith) (omega (arith, listing_is_declared p s.0 x s.2))
      (and_from (has held s.0) (under p s.0 x) (fits s.0 ∙ is_held (holder h s.0) t s.1) s.2))
      ∙ or-true (assumes p t x)

  writable_now : (x : ℕ) → IsTrue (may_write p t held x) → IsWritableNow p h t x
  writable_now x w =
      let parts = and_parts (not (guarantees p t x)) (list_all (λ l. not (under p l x) || has held l) (locks_of p)) w in
      record {
        allowed = not-true (guarantees p t x) parts.0;
        held = λ l u.
            let here = each_below (λ l. not (under p l x) || has held l) 0 (length p.locks) l (omega arith) (omega (arith, listing_is_declared p l x u)) parts.1 in
            held_is (holder h l) t (sym (fits l) ∙ sym (ap (λ b. not b || has held l) u) ∙ here);
      }

  now_writable : (x : ℕ) → IsWritableNow p h t x → IsTrue (may_write p t held x)
  now_writable x w =
      and_from (not (guarantees p t x)) (list_all (λ l. not (under p l x) || has held l) (locks_of p)) (ap not w.allowed)
      (all_from (λ l. not (under p l x) || has held l) 0 (length p.locks) (λ k lt. at k (cases_Bool (under p k x))))
    where
      at : (k : ℕ) → (under p k x ≡ true) ⊎ (under p k x ≡ false) → (not (under p k x) || has held k) ≡ true
      at k (inl u) = ap (λ b. not b || has held k) u ∙ fits k ∙ is_held (holder h k) t (w.held k u)
      at k (inr u) = ap (λ b. not b || has held k) u

  pub sets_of : AreSetsOf p h t held
  sets_of = record { stable = λ x. (stable_now x, now_stable x); writable = λ x. (writable_now x, now_writable x) }
