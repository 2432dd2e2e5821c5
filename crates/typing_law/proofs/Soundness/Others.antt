-- The rules of the other statements are sound, and statements without blocks owe what their rules give.
use Rattle.std.proofs.Common.{◌≡◌, ◌≢◌, ◌⊎◌, ℕ, ◌<◌, ◌≤◌, ◌&&◌, not, List, [], ◌∷◌, ◌++◌, length, map, filter, set, Bool, true, false, Option, Some, None, refl, sym, ◌∙◌, ap, subst, IsTrue, inl, inr, get_or-set_same, get_or-set_other, length-set, unwrap_or, option_map, option_to_list, eq-eqb}
use Rattle.std.proofs.lemmas.Bool.{or_right, and_from, cases_lt}
use Rattle.std.proofs.lemmas.List.{set_past}
use Rattle.std.proofs.Math.Decide.{ℕ_discrete}
use Rattle.cov_expr.specs.Entailment.{Holds, AllHold, Entails}
use Rattle.cov_expr.specs.Term.{Term, const, neg, value, flag, is_set}
use Rattle.cov_expr.specs.Words.{AreWords, HasWords}
use Rattle.cov_expr.proofs.Tests.{left_true}
use Rattle.cov_ast.specs.Declarations.{assumes, class_of, hides, invariant_of, invariant_term, is_control, lock_at, under}
use Rattle.cov_ast.specs.Plain.{Plain, Cmds, plain_stm}
use Rattle.cov_ast.specs.Plain as code
use Rattle.cov_ast.specs.Syntax.{State, Proof, Stm, skip, assign, lock, unlock, note, output}
use Rattle.cov_ast.specs.Tables.{has}
use Rattle.cov_ast.specs.WellFormed.{IsStmInRange, StmHasWords}
use Rattle.cov_ast.specs.LocksAlong.{locks_after}
use Rattle.statement_parts.specs.Parts as table
use Rattle.statement_parts.specs.PlainParts as plain
use Rattle.flow_model.specs.Source.{Holders, holder, is_held_by}
use Rattle.flow_model.specs.Source as step
use Rattle.flow_model.specs.Holdings.{IsStableNow, IsHiddenNow}
use Rattle.flow_model.specs.Agreement.{IsLow, SameAt}
use Rattle.flow_model.specs.Game.{FreeInvariantsHold}
use Rattle.flow_model.proofs.Holders.{held_is, is_held}
use Rattle.mode_state.specs.Sets.{is_hidden}
use Rattle.mode_compat.specs.Declared.{IsDeclared}
use Rattle.mode_compat.specs.HeldSets.{AreHeldBy}
use Rattle.point_law.specs.Terms.{with_option, listed}
use Rattle.point_law.specs.Point.{Point, given_type, type_at, default_type, is_tracked, is_over_stable}
use Rattle.point_law.specs.After.{after_assign, after_lock, locked_type, after_unlock, kept_type, unlocked_type, with_guard, meet, noted}
use Rattle.typing_law.specs.Blocks.{value_type, after_stm}
use Rattle.typing_law.specs.Entailments.{from_preds, freed_value, guard_follows, state_follows}
use Rattle.typing_law.specs.ThreadObligations.{stm_parts, unlock_parts}
use Rattle.typing_law.proofs.Soundness.Assign.{assign_ok}
use Rattle.typing_law.proofs.Soundness.Conditions.{Each, StateFollows, StateOver, UnlockChecks, GuardChecks}
use Rattle.typing_law.proofs.Soundness.Fits.{World, Settled, Fits, IsNotForeign, AllOver, AllStable, OverStableControls, ChangesOwn, Turned, waits, proceeds, TurnOk, OutputOk, GuardOk, Weaker, with_holders, Typed, typed_from}
use Rattle.typing_law.proofs.Soundness.FromObligations.{AllParts, ProofsHaveWords, all_follow, assign_of, follow_left, follow_right, gives, guard_of, in_filter, invariant_follows, listed_follows, state_gives, state_over}
use Rattle.typing_law.proofs.Soundness.Static.{held_gives, over_gives, all_stable, stable_shown, not_foreign_of_shown, class_over, under_hide, clash, cond_is}
use Rattle.typing_law.proofs.Soundness.Lists.{distinct_holds, with_holds, listed_is, each_map, updated_is, retyped_is}
use Rattle.typing_law.proofs.Soundness.Exprs.{distinct_over, with_over, filter_holds, with_if_holds, with_if_over, filter_over, term_agrees, not_const_zero}

-- Holders ------------------------------------------------------------------------------------------------------

-- there are as many, and as many are told of, and what is told is so
pub record HeldBehind (t : ℕ) (h k : Holders) (H K : List Bool) : Type 0 where
  pub holders : length k ≡ length h
  pub sized : length K ≡ length H
  pub by : AreHeldBy k t K

module _ (t : ℕ) where
  -- a lock that is taken or given back, with what is told of it
  held_set : (h : Holders) (l : ℕ) (o : Option ℕ) (H : List Bool) (b : Bool) → length h ≡ length H → b ≡ is_held_by o t → AreHeldBy h t H
      → HeldBehind t h (set h l o) H (set H l b)
  held_set h l o H b n e held = record { holders = length-set h l o; sized = length-set H l b; by = λ j. go j (ℕ_discrete j l) }
    where
      at : (l < length H) ⊎ (length H ≤ l) → has (set H l b) l ≡ is_held_by (holder (set h l o) l) t
      at (inl lt) = get_or-set_same H l b false lt ∙ e ∙ sym (ap (λ (q : Option ℕ). is_held_by q t) (get_or-set_same h l o None (rw n lt)))
      at (inr past) = ap (λ K. has K l) (set_past H l b past) ∙ held l ∙ sym (ap (λ k. is_held_by (holder k l) t) (set_past h l o (rw n past)))

      go : (j : ℕ) → Dec (j ≡ l) → has (set H l b) j ≡ is_held_by (holder (set h l o) j) t
      go j (yes i) = ap (has (set H l b)) i ∙ at (cases_lt l (length H)) ∙ sym (ap (λ x. is_held_by (holder (set h l o) x) t) i)
      go j (no d) =
          get_or-set_other H l j b false d ∙ held j ∙ sym (ap (λ (q : Option ℕ). is_held_by q t) (get_or-set_other h l j o None d))

  changes_own : (h : Holders) (l : ℕ) (o : Option ℕ) → (holder h l ≡ None) × (o ≡ Some t) ⊎ (holder h l ≡ Some t) × (o ≡ None)
      → ChangesOwn t h (set h l o)
  changes_own h l o e j = go (ℕ_discrete j l) (cases_lt l (length h)) e
    where
      go : Dec (j ≡ l) → (l < length h) ⊎ (length h ≤ l) → (holder h l ≡ None) × (o ≡ Some t) ⊎ (holder h l ≡ Some t) × (o ≡ None)
          → (holder (set h l o) j ≡ holder h j) ⊎ ((holder h j ≡ None) × (holder (set h l o) j ≡ Some t))
          ⊎ ((holder h j ≡ Some t) × (holder (set h l o) j ≡ None))
      go (no d) n r = inl (get_or-set_other h l j o None d)
      go (yes i) (inr past) r = inl (ap (λ k. holder k j) (set_past h l o past))
      go (yes i) (inl lt) (inl r) = inr (inl (ap (holder h) i ∙ r.0, ap (holder (set h l o)) i ∙ get_or-set_same h l o None lt ∙ r.1))
      go (yes i) (inl lt) (inr r) = inr (inr (ap (holder h) i ∙ r.0, ap (holder (set h l o)) i ∙ get_or-set_same h l o None lt ∙ r.1))

  -- What is told of the locks along the text stays so.
  pub turn_keeps : (c : code.Cmd) → (plain.parts c).evaluated ≡ None → (h : Holders) (H : List Bool) → length h ≡ length H → AreHeldBy h t H
      → Turned t c h (λ k. HeldBehind t h k H (locks_after c H))
  turn_keeps code.skip e h H n held = proceeds h (λ m s at is. refl) (λ l. inl refl) (record { holders = refl; sized = refl; by = held })
  turn_keeps (code.lock l) e h H n held = go (holder h l) refl
    where
      go : (o : Option ℕ) → holder h l ≡ o → Turned t (code.lock l) h (λ k. HeldBehind t h k H (set H l true))
      go None i =
          proceeds (set h l (Some t)) (λ m s at is. ap (step.after_lock t m h s at l is) i) (changes_own h l (Some t) (inl (i, refl)))
          (held_set h l (Some t) H true n (sym (eq-eqb t t refl)) held)
      go (Some u) i = waits (λ m s at is. ap (step.after_lock t m h s at l is) i)
  turn_keeps (code.unlock l) e h H n held = go (is_held_by (holder h l) t) refl
    where
      go : (b : Bool) → is_held_by (holder h l) t ≡ b → Turned t (code.unlock l) h (λ k. HeldBehind t h k H (set H l false))
      go true i =
          proceeds (set h l None) (λ m s at is. ap (step.after_unlock m h s at l is) i) (changes_own h l None (inr (held_is (holder h l) t i, refl)))
          (held_set h l None H false n refl held)
      go false i = waits (λ m s at is. ap (step.after_unlock m h s at l is) i)
  turn_keeps _ e h H n held = cc

module _ (p : Plain) (d : IsDeclared p) (t : ℕ) (t_in : t < length p.threads) where
  -- What is known of a variable without more: its class, where nobody hides it.

  default_same : (w : World) (H : List Bool) → Settled p t w → AreHeldBy w.holders t H
      → (z : ℕ) → IsStableNow p w.holders t z → IsNotForeign p t z → Holds (default_type p t H z) w.left → SameAt w.left w.right z
  default_same w H s held z st o =
      cond_is (λ r. Holds r w.left → SameAt w.left w.right z) (is_hidden p t H z) (const 0) (class_of p z)
      (λ _ h. absurd (not_const_zero w.left h)) (λ i h. s.agree.visible z h (stable_shown p d t t_in w.holders H held z st i o))

  default_over : (w : World) (H : List Bool) → AreHeldBy w.holders t H
      → (z : ℕ) → IsStableNow p w.holders t z → OverStableControls p t w.holders (default_type p t H z)
  default_over w H held z st =
      cond_is (λ r. OverStableControls p t w.holders r) (is_hidden p t H z) (const 0) (class_of p z) (λ _ y u. cc)
      (λ _ y u. class_over p d t t_in w.holders H held z st y u)

  -- States of joins, loops and notes ------------------------------------------------------------------------------

  each_hold : (a : Point) (m : List ℕ) → AreWords m → AllHold a.preds m → (l : List Term) → Each l (λ g. Entails a.preds g) → AllHold l m
  each_hold a m i h [] k = tt
  each_hold a m i h (g ∷ gs) k = (k.0 m i h, each_hold a m i h gs k.1)

  each_over : (h : Holders) (H : List Bool) → AreHeldBy h t H → (l : List Term) → Each l (λ e. IsTrue (is_over_stable p t H e)) → AllOver p t h l
  each_over h H held [] k = tt
  each_over h H held (g ∷ gs) k = (all_stable p d t t_in h H held g k.0, each_over h H held gs k.1)

  -- a point all of whose parts follow from one with the same locks held
  pub met : (a b : Point) (j : State) → length b.held ≡ length p.locks → ((l : ℕ) → has b.held l ≡ has a.held l) → StateOver p t b.held j
      → StateFollows a j
      → Weaker p t a (meet p t b j)
  met a b j sized same over k w f = record {
    settled = f.settled;
    sized = sized;
    held = held;
    preds1 = distinct_holds w.left j.preds (each_hold a w.left f.settled.memory1.words f.preds1 j.preds k.preds);
    preds2 = distinct_holds w.right j.preds (each_hold a w.right f.settled.memory2.words f.preds2 j.preds k.preds);
    over = distinct_over p t w.holders j.preds (each_over w.holders b.held held j.preds over.preds);
    types = λ z s n o.
        retyped_is (λ r. Holds r w.left → SameAt w.left w.right z) change b.types z (λ h. absurd (not_const_zero w.left h))
        (listed_is (λ r. Holds r w.left → SameAt w.left w.right z) j.types z (default_type p t b.held z)
        (each_map _ _ _ j.types
        (λ y r c g i h. f.types z s n o (subst (λ y. Holds (type_at a y) w.left) i (g w.left f.settled.memory1.words f.preds1 h))) over.types k.types)
        (default_same w b.held f.settled held z s o));
    types_over = λ z s n.
        retyped_is (λ r. OverStableControls p t w.holders r) change b.types z (λ y u. cc)
        (listed_is (λ r. OverStableControls p t w.holders r) j.types z (default_type p t b.held z)
        (each_map _ _ _ j.types (λ y r c _ i. over_gives p d t t_in w.holders b.held held r c) over.types k.types)
        (default_over w b.held held z s));
  }
    where
      held : AreHeldBy w.holders t b.held
      held l = same l ∙ f.held l

      change : ℕ → Term → Term
      change z q = unwrap_or (listed j.types z) (default_type p t b.held z)

  pub noted_ok : (a : Point) (j : State) → StateOver p t a.held j → StateFollows a j → Weaker p t a (noted a j)
  noted_ok a j over k w f = record {
    settled = f.settled;
    sized = f.sized;
    held = f.held;
    preds1 = distinct_holds w.left j.preds (each_hold a w.left f.settled.memory1.words f.preds1 j.preds k.preds);
    preds2 = distinct_holds w.right j.preds (each_hold a w.right f.settled.memory2.words f.preds2 j.preds k.preds);
    over = distinct_over p t w.holders j.preds (each_over w.holders a.held f.held j.preds over.preds);
    types = λ z s n o.
        retyped_is (λ r. Holds r w.left → SameAt w.left w.right z) change a.types z (λ h. absurd (not_const_zero w.left h))
        (listed_is (λ r. Holds r w.left → SameAt w.left w.right z) j.types z (type_at a z)
        (each_map _ _ _ j.types
        (λ y r c g i h. f.types z s n o (subst (λ y. Holds (type_at a y) w.left) i (g w.left f.settled.memory1.words f.preds1 h))) over.types k.types)
        (f.types z s n o));
    types_over = λ z s n.
        retyped_is (λ r. OverStableControls p t w.holders r) change a.types z (λ y u. cc)
        (listed_is (λ r. OverStableControls p t w.holders r) j.types z (type_at a z)
        (each_map _ _ _ j.types (λ y r c _ i. over_gives p d t t_in w.holders a.held f.held r c) over.types k.types)
        (f.types_over z s n));
  }
    where
      change : ℕ → Term → Term
      change z q = unwrap_or (listed j.types z) q

  -- Guards -------------------------------------------------------------------------------------------------------

  with_fits : (a : Point) (e : Term) (w : World) → Fits p t a w → (AllStable p t w.holders e → Holds e w.left × Holds e w.right)
      → Fits p t (with_guard p t a e) w
  with_fits a e w f k = record {
    settled = f.settled;
    sized = f.sized;
    held = f.held;
    types = f.types;
    types_over = f.types_over;
    preds1 = with_if_holds (is_over_stable p t a.held e) a.preds e w.left f.preds1 (λ i. (k (all i)).0);
    preds2 = with_if_holds (is_over_stable p t a.held e) a.preds e w.right f.preds2 (λ i. (k (all i)).1);
    over = with_if_over p t w.holders (is_over_stable p t a.held e) a.preds e f.over all;
  }
    where
      all : is_over_stable p t a.held e ≡ true → AllStable p t w.holders e
      all i = all_stable p d t t_in w.holders a.held f.held e i

  neg_holds : (e : Term) (m : List ℕ) → value e m ≡ 0 → Holds (neg e) m
  neg_holds e m h z = let i : ◌≡◌ {A = ℕ} 1 0 = sym (ap (λ v. flag (not (is_set v))) h) ∙ z in cc

  pub guard_ok : (a : Point) (e : Term) → GuardChecks p t a e → GuardOk p t e a (with_guard p t a e) (with_guard p t a (neg e))
  guard_ok a e k = record {
    same = λ w f. term_agrees p d t t_in a w f e k.reads (k.low w.left f.settled.memory1.words f.preds1);
    taken = λ w f h. with_fits a e w f h;
    other = λ w f h. with_fits a (neg e) w f (λ s. let i = h s in (neg_holds e w.left i.0, neg_holds e w.right i.1));
  }

  -- Output -------------------------------------------------------------------------------------------------------

  pub output_ok : (a : Point) (e : Term) → HasWords e → GuardChecks p t a e → OutputOk p t e a a
  output_ok a e n k = record { words = n; same = (guard_ok a e k).same; after = λ w f. f }

  -- Lock ---------------------------------------------------------------------------------------------------------

  invariant_holds : (o : Option Term) (es : List Term) (m : List ℕ) → AllHold es m → Holds (invariant_term o) m → AllHold (with_option es o) m
  invariant_holds None es m h k = h
  invariant_holds (Some e) es m h k = with_holds m es e h k

  invariant_over : (h : Holders) (o : Option Term) (es : List Term) → AllOver p t h es → AllStable p t h (invariant_term o)
      → AllOver p t h (with_option es o)
  invariant_over h None es o k = o
  invariant_over h (Some e) es o k = with_over p t h es e o k

  module _ (a : Point) (l : ℕ) (l_in : l < length p.locks) (w : World) (f : Fits p t a w) (open_l : holder w.holders l ≡ None) where
    taken_h : Holders
    taken_h = set w.holders l (Some t)

    taken_at : holder taken_h l ≡ Some t
    unfolding taken_h
    taken_at = get_or-set_same w.holders l (Some t) None (rw f.settled.locks l_in)

    taken_other : (j : ℕ) → j ≢ l → holder taken_h j ≡ holder w.holders j
    unfolding taken_h
    taken_other j n = get_or-set_other w.holders l j (Some t) None n

    not_l : (j u : ℕ) → holder w.holders j ≡ Some u → j ≢ l
    not_l j u e i = absurd (let c : Some u ≡ None = sym e ∙ ap (holder w.holders) i ∙ open_l in cc)

    lock_stable : (x : ℕ) → IsStableNow p w.holders t x → IsStableNow p taken_h t x
    lock_stable x (inl c) = inl c
    lock_stable x (inr (j, e, u)) = inr (j, taken_other j (not_l j t e) ∙ e, u)

    lock_under : (x : ℕ) → under p l x ≡ false → IsStableNow p taken_h t x → IsStableNow p w.holders t x
    lock_under x n (inl c) = inl c
    lock_under x n (inr (j, e, u)) =
        inr (j, sym (taken_other j (λ i. clash (under p l x) (subst (λ z. IsTrue (under p z x)) i u) n)) ∙ e, u)

    lock_hidden : (x : ℕ) → IsHiddenNow p w.holders x → IsHiddenNow p taken_h x
    lock_hidden x (inl (j, (u, e), c)) = inl (j, (u, taken_other j (not_l j u e) ∙ e), c)
    lock_hidden x (inr c) = inr c

    -- under a free lock nothing is hidden
    lock_shown : (x : ℕ) → IsTrue (under p l x) → ¬ IsHiddenNow p w.holders x
    lock_shown x u (inl (j, (v, e), c)) = not_l j v e (d.one_lock x j l (under_hide p j x c) u)
    lock_shown x u (inr (v, c)) = clash (assumes p v x) (or_right _ _ c) (d.not_assumed l x v u)

    lock_free : (j : ℕ) → holder taken_h j ≡ None → holder w.holders j ≡ None
    lock_free j e = go (ℕ_discrete j l)
      where
        go : Dec (j ≡ l) → holder w.holders j ≡ None
        go (yes i) = ap (holder w.holders) i ∙ open_l
        go (no n) = sym (taken_other j n) ∙ e

    lock_held : AreHeldBy taken_h t (set a.held l true)
    unfolding taken_h
    lock_held = (held_set t w.holders l (Some t) a.held true (f.settled.locks ∙ sym f.sized) (sym (eq-eqb t t refl)) f.held).by

    lock_over : (es : List Term) → AllOver p t w.holders es → AllOver p t taken_h es
    lock_over [] o = tt
    lock_over (e ∷ es) o = ((λ y u. lock_stable y (o.0 y u)), lock_over es o.1)

    lock_fits : Fits p t (after_lock p t a l) (with_holders p t w (set w.holders l (Some t)))
    unfolding taken_h
    lock_fits = record {
      settled = record {
        memory1 = f.settled.memory1;
        memory2 = f.settled.memory2;
        locks = length-set w.holders l (Some t) ∙ f.settled.locks;
        agree = record {
          holders = refl;
          controls = f.settled.agree.controls;
          visible = λ x h n. f.settled.agree.visible x h (λ c. n (lock_hidden x c));
        };
        free1 = λ j e. f.settled.free1 j (lock_free j e);
        free2 = λ j e. f.settled.free2 j (lock_free j e);
      };
      sized = length-set a.held l true ∙ f.sized;
      held = lock_held;
      preds1 = invariant_holds (lock_at p l).inv a.preds w.left f.preds1 (f.settled.free1 l open_l);
      preds2 = invariant_holds (lock_at p l).inv a.preds w.right f.preds2 (f.settled.free2 l open_l);
      over = invariant_over taken_h (lock_at p l).inv a.preds (lock_over a.preds f.over) (λ y u. inr (l, taken_at, d.invariant_under l y u));
      types = λ z s n o.
          updated_is (λ g. Holds (unwrap_or g (const 0)) w.left → SameAt w.left w.right z) (locked_type p l) a.types z
          (λ h. absurd (not_const_zero w.left h))
          (cond_is (λ g. Holds (unwrap_or g (const 0)) w.left → SameAt w.left w.right z) (under p l z && not (is_control p z))
          (Some (class_of p z)) (given_type a z)
          (λ u h. f.settled.agree.visible z h (lock_shown z (left_true (under p l z) (not (is_control p z)) u)))
          (λ u. f.types z (lock_under z (not_under z n u) s) n o));
      types_over = λ z s n.
          updated_is (λ g. OverStableControls p t taken_h (unwrap_or g (const 0))) (locked_type p l) a.types z (λ y u. cc)
          (cond_is (λ g. OverStableControls p t taken_h (unwrap_or g (const 0))) (under p l z && not (is_control p z))
          (Some (class_of p z)) (given_type a z)
          (λ u. class_over p d t t_in taken_h (set a.held l true) lock_held z s)
          (λ u y c. let i = f.types_over z (lock_under z (not_under z n u) s) n y c in (lock_stable y i.0, i.1)));
    }
      where
        not_under : (z : ℕ) → is_control p z ≡ false → (under p l z && not (is_control p z)) ≡ false → under p l z ≡ false
        not_under z n u = go (under p l z) refl
          where
            go : (b : Bool) → under p l z ≡ b → under p l z ≡ false
            go true i = clash (under p l z && not (is_control p z)) (and_from (under p l z) (not (is_control p z)) i (ap not n)) u
            go false i = i

  lock_ok : (a : Point) (l : ℕ) → l < length p.locks → TurnOk p t (code.lock l) a (after_lock p t a l)
  lock_ok a l k = record { turned = λ w f. go w f (holder w.holders l) refl }
    where
      go : (w : World) → Fits p t a w → (o : Option ℕ) → holder w.holders l ≡ o
          → Turned t (code.lock l) w.holders (λ h. Fits p t (after_lock p t a l) (with_holders p t w h))
      go w f None e =
          proceeds (set w.holders l (Some t)) (λ m s at is. ap (step.after_lock t m w.holders s at l is) e)
          (changes_own t w.holders l (Some t) (inl (e, refl))) (lock_fits a l k w f e)
      go w f (Some u) e = waits (λ m s at is. ap (step.after_lock t m w.holders s at l is) e)

  -- Unlock -------------------------------------------------------------------------------------------------------

  module _ (a : Point) (l : ℕ) (k : UnlockChecks p t a l) (w : World) (f : Fits p t a w) where
    given_h : Holders
    given_h = set w.holders l None

    given_at : holder given_h l ≡ None
    unfolding given_h
    given_at = get_or-set_same w.holders l None None (rw f.settled.locks k.in_range)

    given_other : (j : ℕ) → j ≢ l → holder given_h j ≡ holder w.holders j
    unfolding given_h
    given_other j n = get_or-set_other w.holders l j None None n

    still_other : (j u : ℕ) → holder given_h j ≡ Some u → j ≢ l
    still_other j u e i = absurd (let c : Some u ≡ None = sym e ∙ ap (holder given_h) i ∙ given_at in cc)

    given_stable : (x : ℕ) → IsStableNow p given_h t x → IsStableNow p w.holders t x
    given_stable x (inl c) = inl c
    given_stable x (inr (j, e, u)) = inr (j, sym (given_other j (still_other j t e)) ∙ e, u)

    unlock_hidden : (x : ℕ) → hides p l x ≡ false → IsHiddenNow p w.holders x → IsHiddenNow p given_h x
    unlock_hidden x n (inl (j, (u, e), c)) =
        inl (j, (u, given_other j (λ i. clash (hides p l x) (subst (λ z. IsTrue (hides p z x)) i c) n) ∙ e), c)
    unlock_hidden x n (inr c) = inr c

    left : List Bool
    left = set a.held l false

    unlock_held : AreHeldBy given_h t left
    unfolding given_h left
    unlock_held = (held_set t w.holders l None a.held false (f.settled.locks ∙ sym f.sized) refl f.held).by

    unlock_visible : (x : ℕ) → IsLow p w.left x → ¬ IsHiddenNow p given_h x → (b : Bool) → hides p l x ≡ b → (c : Bool) → is_control p x ≡ c
        → SameAt w.left w.right x
    unlock_visible x h n b i true j = f.settled.agree.controls x j
    unlock_visible x h n true i false j =
        f.types x (inr (l, held_gives p d t t_in w.holders a.held f.held l k.held, under_hide p l x i)) j
        (not_foreign_of_shown p d t t_in given_h left unlock_held x n) (k.shown x i j w.left f.settled.memory1.words f.preds1 h)
    unlock_visible x h n false i false j = f.settled.agree.visible x h (λ c. n (unlock_hidden x i c))

    unlock_free : (m : List ℕ) → AreWords m → AllHold a.preds m → FreeInvariantsHold p m w.holders → (j : ℕ) → holder given_h j ≡ None → Dec (j ≡ l)
        → Holds (invariant_of p j) m
    unlock_free m i h free j e (yes n) = subst (λ z. Holds (invariant_of p z) m) (sym n) (k.invariant m i h)
    unlock_free m i h free j e (no n) = free j (sym (given_other j n) ∙ e)

    unlock_settled : Settled p t (with_holders p t w (set w.holders l None))
    unfolding given_h
    unlock_settled = record {
      memory1 = f.settled.memory1;
      memory2 = f.settled.memory2;
      locks = length-set w.holders l None ∙ f.settled.locks;
      agree = record {
        holders = refl;
        controls = f.settled.agree.controls;
        visible = λ x h n. unlock_visible x h n (hides p l x) refl (is_control p x) refl;
      };
      free1 = λ j e. unlock_free w.left f.settled.memory1.words f.preds1 f.settled.free1 j e (ℕ_discrete j l);
      free2 = λ j e. unlock_free w.right f.settled.memory2.words f.preds2 f.settled.free2 j e (ℕ_discrete j l);
    }

    unlock_fits : Fits p t (after_unlock p t a l) (with_holders p t w (set w.holders l None))
    unfolding given_h left
    unlock_fits = record {
      settled = unlock_settled;
      sized = length-set a.held l false ∙ f.sized;
      held = unlock_held;
      preds1 = filter_holds (is_over_stable p t left) a.preds w.left w.left (λ e i h. h) f.preds1;
      preds2 = filter_holds (is_over_stable p t left) a.preds w.right w.right (λ e i h. h) f.preds2;
      over = filter_over p t w.holders given_h (is_over_stable p t left) a.preds (λ e i o. all_stable p d t t_in given_h left unlock_held e i) f.over;
      types = λ z s n o.
          unlock_type (λ r. Holds r w.left → SameAt w.left w.right z) z (λ h. absurd (not_const_zero w.left h))
          (λ _. f.types z (given_stable z s) n o)
          (default_same (with_holders p t w (set w.holders l None)) left unlock_settled unlock_held z s o);
      types_over = λ z s n.
          unlock_type (λ r. OverStableControls p t given_h r) z (λ y u. cc)
          (λ i y u. (all_stable p d t t_in given_h left unlock_held (type_at a z) i y u, (f.types_over z (given_stable z s) n y u).1))
          (default_over (with_holders p t w (set w.holders l None)) left unlock_held z s);
    }
      where
        kept_is : (Q : Term → Type 0) (z : ℕ) → Q (const 0) → Q (default_type p t left z) → (g : Option Term)
            → (is_over_stable p t left (unwrap_or g (const 0)) ≡ true → Q (unwrap_or g (const 0)))
            → Q (unwrap_or (option_map (kept_type p t left z) g) (const 0))
        kept_is Q z none default None same = none
        kept_is Q z none default (Some g) same = cond_is Q (is_over_stable p t left g) g (default_type p t left z) same (λ _. default)

        unlock_type : (Q : Term → Type 0) (z : ℕ) → Q (const 0) → (is_over_stable p t left (type_at a z) ≡ true → Q (type_at a z))
            → Q (default_type p t left z) → Q (type_at (after_unlock p t a l) z)
        unlock_type Q z none same default =
            updated_is (λ g. Q (unwrap_or g (const 0))) (unlocked_type p t left) a.types z none
            (cond_is (λ g. Q (unwrap_or g (const 0))) (is_tracked p t left z) (option_map (kept_type p t left z) (given_type a z)) None
            (λ _. kept_is Q z none default (given_type a z) same) (λ _. none))

  unlock_ok : (a : Point) (l : ℕ) → UnlockChecks p t a l → TurnOk p t (code.unlock l) a (after_unlock p t a l)
  unlock_ok a l k = record {
    turned = λ w f.
        let own = held_gives p d t t_in w.holders a.held f.held l k.held in
        proceeds (set w.holders l None) (λ m s at is. ap (step.after_unlock m w.holders s at l is) (is_held (holder w.holders l) t own))
        (changes_own t w.holders l None (inr (own, refl))) (unlock_fits a l k w f);
  }

  unlock_of : (at : ℕ) (a : Point) (l : ℕ) (proofs : List Proof) → l < length p.locks → ProofsHaveWords proofs → AllParts (unlock_parts p t at a l proofs)
      → UnlockChecks p t a l
  unlock_of at a l proofs r c h =
      let shown = filter (λ x. not (is_control p x)) (lock_at p l).hide in
      let gs = map (from_preds a.preds) (option_to_list (lock_at p l).inv) in
      let hs = map (freed_value p t a) shown in
      let all = all_follow p t at proofs 1 (gs ++ hs) c h.1.1.0 in
      record {
        in_range = r;
        held = h.0.0;
        invariant = invariant_follows p t at a.preds (lock_at p l).inv (follow_left gs hs all);
        shown = λ x i n. gives a.preds (class_of p x) (type_at a x)
            (listed_follows (freed_value p t a) shown x (follow_right gs hs all)
            (in_filter (λ x. not (is_control p x)) (lock_at p l).hide x i (ap not n)));
      }

  -- Statements without blocks ------------------------------------------------------------------------------------

  -- the truth of its obligations gives what such a statement owes
  pub alone_ok : (s : Stm) → (table.parts s).nested ≡ table.none → (at : ℕ) (proofs : List Proof) (rest : Cmds) (a b : Point)
      → IsStmInRange (length p.vars) (length p.locks) s → StmHasWords s → ProofsHaveWords proofs → AllParts (stm_parts p t s at proofs a)
      → Typed p t rest (after_stm p t s a) b → Typed p t (plain_stm s at rest) a b
  alone_ok skip o at proofs rest a b r w c h k = (a, record { turned = λ w f. proceeds w.holders (λ m s at is. refl) (λ l. inl refl) f }, k)
  alone_ok (assign x e q retypes) o at proofs rest a b r w c h k =
      let v = value_type p t a q e in
      (after_assign p t a x e v retypes, assign_ok p d t t_in a x e v retypes (assign_of p t at a x e q retypes proofs r w c h), k)
  alone_ok (lock l) o at proofs rest a b r w c h k = (after_lock p t a l, lock_ok a l r, k)
  alone_ok (unlock l) o at proofs rest a b r w c h k = (after_unlock p t a l, unlock_ok a l (unlock_of at a l proofs r c h), k)
  alone_ok (note j) o at proofs rest a b r w c h k =
      let over = state_over p t at a.held j h.0 in
      typed_from p t rest a (noted a j) b (noted_ok a j over (state_gives a j (all_follow p t at proofs 1 (state_follows a j) c h.1.1.0))) k
  alone_ok (output e) o at proofs rest a b r w c h k =
      (a, output_ok a e w (guard_of p t at a e h.0 (all_follow p t at proofs 1 (guard_follows p t a e ∷ []) c h.1.1.0).0), k)
  alone_ok _ o at proofs rest a b r w c h k = cc
