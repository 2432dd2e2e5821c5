-- The rule of the assignment is sound.
use Rattle.std.proofs.Common.{◌≡◌, ◌≢◌, ℕ, ◌<◌, ◌&&◌, ◌==◌, not, List, length, get_or, set, filter, Bool, true, false, Some, None, refl, sym, ◌∙◌, ap, subst, IsTrue, inl, inr, ⊎_elim, get_or-set_same, get_or-set_other, length-set, eq-eqb, eqb-true, unwrap_or, cond}
use Rattle.std.proofs.lemmas.Bool.{or_cases, not-true, false_from_ne_true}
use Rattle.std.proofs.Math.Decide.{ℕ_discrete}
use Rattle.cov_expr.specs.declared.expr.Op.TheVariants.{Eq}
use Rattle.cov_expr.specs.Entailment.{Holds}
use Rattle.cov_expr.specs.Term.{Term, const, var, bin, value}
use Rattle.cov_expr.specs.Trees.{mentions}
use Rattle.cov_expr.specs.Trees as trees
use Rattle.cov_expr.proofs.Values.{value_mentioned, value-subst, equal_values}
use Rattle.cov_expr.proofs.Tests.{left_true, right_true}
use Rattle.cov_ast.specs.Declarations.{class_of, invariant_of, is_control}
use Rattle.cov_ast.specs.Plain.{Plain}
use Rattle.flow_model.specs.Source.{holder}
use Rattle.flow_model.specs.Holdings.{IsStableNow, IsHiddenNow}
use Rattle.flow_model.specs.Agreement.{IsLow, SameAt}
use Rattle.flow_model.specs.Game.{FreeInvariantsHold}
use Rattle.flow_model.proofs.Turns.{set_words}
use Rattle.mode_state.specs.Sets.{is_stable, is_hidden}
use Rattle.mode_compat.specs.Declared.{IsDeclared}
use Rattle.point_law.specs.Point.{Point, type_at, default_type, ty, ty_var, is_over_stable}
use Rattle.point_law.specs.Terms.{listed}
use Rattle.point_law.specs.After.{after_assign, assigned_type, keeps_value}
use Rattle.typing_law.proofs.Soundness.Conditions.{AssignChecks, Gives}
use Rattle.typing_law.proofs.Soundness.Fits.{World, Settled, Fits, IsNotForeign, AllStable, OverStableControls, Pending, AssignOk, stored}
use Rattle.typing_law.proofs.Soundness.Lists.{listed_is, each_map, retyped_is}
use Rattle.typing_law.proofs.Soundness.Static.{stable_gives, over_gives, all_stable, shown_of, stable_shown, not_foreign_of_shown, writable, class_over, control_of, class_of_control, clash, cond_is}
use Rattle.typing_law.proofs.Soundness.Exprs.{filter_holds, with_if_holds, with_if_over, filter_over, var_agrees, term_agrees, one_holds, not_const_zero}

-- a store leaves the value of what does not mention x
pub value_set : (e : Term) (m : List ℕ) (x v : ℕ) → mentions e x ≡ false → value e (set m x v) ≡ value e m
value_set e m x v n =
    value_mentioned e (set m x v) m (λ y k. get_or-set_other m x y v 0 (λ i. clash (mentions e x) (subst (λ z. IsTrue (mentions e z)) i k) n))

module _ (p : Plain) (d : IsDeclared p) (t : ℕ) (t_in : t < length p.threads) (a : Point) (x : ℕ) (e q : Term)
    (retypes : List (ℕ × Term)) (k : AssignChecks p t a x e q retypes) where
  module _ (w : World) (f : Fits p t a w) where
    q_stable : AllStable p t w.holders q
    q_stable y n = (over_gives p d t t_in w.holders a.held f.held q k.over y n).0

    -- what follows from predicates and one expression more
    follows : (r goal : Term) → Gives a.preds r goal → Holds r w.left → Holds goal w.left
    follows r goal g = g w.left f.settled.memory1.words f.preds1

    evaluated : Holds q w.left → value e w.left ≡ value e w.right
    evaluated h = term_agrees p d t t_in a w f e k.reads (follows q (ty p t a e) k.typed h)

    module _ (v1 v2 : ℕ) (g : Pending p t e q w v1 v2) where
      abbrev after1 : List ℕ
      after1 = set w.left x v1

      abbrev after2 : List ℕ
      after2 = set w.right x v2

      -- the copies agree on a variable after the store
      abbrev SameAfter : ℕ → Type 0
      SameAfter y = SameAt after1 after2 y

      -- a control takes one word in both
      control_same : IsTrue (is_control p x) → v1 ≡ v2
      control_same c =
          g.same (follows (class_of p x) q (k.shown (inl c)) (subst (λ l. Holds l w.left) (sym (class_of_control p d x c)) (one_holds w.left)))

      e_stable : IsTrue (is_control p x) → AllStable p t w.holders e
      e_stable c y n = stable_gives p d t t_in w.holders a.held f.held y (k.control_over c y n)

      at_x1 : get_or after1 x 0 ≡ v1
      at_x1 = get_or-set_same w.left x v1 0 (rw f.settled.memory1.complete k.in_range)

      at_x2 : get_or after2 x 0 ≡ v2
      at_x2 = get_or-set_same w.right x v2 0 (rw f.settled.memory2.complete k.in_range)

      same_x : v1 ≡ v2 → SameAfter x
      same_x i = at_x1 ∙ i ∙ sym at_x2

      same_other : (y : ℕ) → y ≢ x → SameAt w.left w.right y → SameAfter y
      same_other y n i = get_or-set_other w.left x y v1 0 n ∙ i ∙ sym (get_or-set_other w.right x y v2 0 n)

      -- what holds of the new memory holds of the old with e for x
      before : IsTrue (is_control p x) → (r : Term) → Holds r after1 → Holds (trees.subst r x e) w.left
      before c r h z =
          h (ap (λ v. value r (set w.left x v)) (g.value1 (e_stable c))
          ∙ sym (value-subst r e x w.left (rw f.settled.memory1.complete k.in_range)) ∙ z)

      unmentioned : (r : Term) → mentions r x ≡ false → Holds r after1 → Holds r w.left
      unmentioned r n h z = h (value_set r w.left x v1 n ∙ z)

      controls : (c : ℕ) → IsTrue (is_control p c) → Dec (c ≡ x) → SameAfter c
      controls c i (yes j) = subst SameAfter (sym j) (same_x (control_same (subst (λ z. IsTrue (is_control p z)) j i)))
      controls c i (no n) = same_other c n (f.settled.agree.controls c i)

      visible_x : IsLow p after1 x → ¬ IsHiddenNow p w.holders x → (b : Bool) → is_control p x ≡ b → SameAfter x
      visible_x l n true c = same_x (control_same c)
      visible_x l n false c =
          let free = false_from_ne_true (mentions (class_of p x) x) (λ i. clash (is_control p x) (control_of p x x i) c) in
          same_x
          (g.same (follows (class_of p x) q (k.shown (inr (shown_of p d t t_in w.holders a.held f.held x n))) (unmentioned (class_of p x) free l)))

      visible_other : (y : ℕ) → y ≢ x → IsLow p after1 y → ¬ IsHiddenNow p w.holders y → (b : Bool) → mentions (class_of p y) x ≡ b
          → SameAfter y
      visible_other y i l n true c =
          let control = control_of p y x c in
          same_other y i (var_agrees p d t t_in a w f y (not_foreign_of_shown p d t t_in w.holders a.held f.held y n) (λ _. n)
          (follows (trees.subst (class_of p y) x e) (ty_var p t a y) (k.controlled control y c (shown_of p d t t_in w.holders a.held f.held y n))
          (before control (class_of p y) l)))
      visible_other y i l n false c = same_other y i (f.settled.agree.visible y (unmentioned (class_of p y) c l) n)

      visible : (y : ℕ) → IsLow p after1 y → ¬ IsHiddenNow p w.holders y → Dec (y ≡ x) → SameAfter y
      visible y l n (yes i) =
          subst SameAfter (sym i)
          (visible_x (subst (λ z. IsLow p after1 z) i l) (subst (λ z. ¬ IsHiddenNow p w.holders z) i n) (is_control p x) refl)
      visible y l n (no i) = visible_other y i l n (mentions (class_of p y) x) refl

      -- no invariant of a free lock mentions x
      free : (m : List ℕ) (v l : ℕ) → FreeInvariantsHold p m w.holders → holder w.holders l ≡ None → (b : Bool) → mentions (invariant_of p l) x ≡ b
          → Holds (invariant_of p l) (set m x v)
      free m v l h n true c =
          let mine = writable p d t t_in w.holders a.held f.held x k.writes in
          absurd (let i : Some t ≡ None = sym (mine.held l (d.invariant_under l x c)) ∙ n in cc)
      free m v l h n false c = λ z. h l n (sym (value_set (invariant_of p l) m x v c) ∙ z)

      settled : Settled p t (stored p t w x v1 v2)
      settled = record {
        memory1 = record {
          complete = length-set w.left x v1 ∙ f.settled.memory1.complete;
          words = set_words w.left x v1 f.settled.memory1.words g.word1;
        };
        memory2 = record {
          complete = length-set w.right x v2 ∙ f.settled.memory2.complete;
          words = set_words w.right x v2 f.settled.memory2.words g.word2;
        };
        locks = f.settled.locks;
        agree = record { holders = refl; controls = λ c i. controls c i (ℕ_discrete c x); visible = λ y l n. visible y l n (ℕ_discrete y x) };
        free1 = λ l n. free w.left v1 l f.settled.free1 n (mentions (invariant_of p l) x) refl;
        free2 = λ l n. free w.right v2 l f.settled.free2 n (mentions (invariant_of p l) x) refl;
      }

      -- The types after the store.
      module _ (z : ℕ) (s : IsStableNow p w.holders t z) (n : is_control p z ≡ false) where
        types_default : IsNotForeign p t z → Holds (default_type p t a.held z) after1 → SameAfter z
        types_default o =
            cond_is (λ r. Holds r after1 → SameAfter z) (is_hidden p t a.held z) (const 0) (class_of p z)
            (λ _ h. absurd (not_const_zero after1 h)) (λ i h. settled.agree.visible z h (stable_shown p d t t_in w.holders a.held f.held z s i o))

        types_kept : IsNotForeign p t z → z ≢ x → mentions (type_at a z) x ≡ false → Holds (type_at a z) after1 → SameAfter z
        types_kept o j i h = same_other z j (f.types z s n o (unmentioned (type_at a z) i h))

        -- a type that mentions no control but those that it may
        free_of : is_control p x ≡ false → mentions (type_at a z) x ≡ false
        free_of c = false_from_ne_true (mentions (type_at a z) x) (λ u. clash (is_control p x) (f.types_over z s n x u).1 c)

        types_at : IsNotForeign p t z → Holds (assigned_type p t a.held x q retypes z (type_at a z)) after1 → SameAfter z
        types_at o =
            cond_is Q (is_control p x) (unwrap_or (listed retypes z) changed) (cond (x == z) q (type_at a z))
            (λ c. let j : z ≢ x = λ j. clash (is_control p z) (subst (λ y. IsTrue (is_control p y)) (sym j) c) n in
            listed_is Q retypes z changed
            (each_map _ _ _ retypes
            (λ y r c given y_is h. same_other z j (f.types z s n o
            (subst (λ y. Holds (type_at a y) w.left) y_is (given w.left f.settled.memory1.words f.preds1 (before c.0 r h)))))
            k.retypes_over k.retyped)
            (cond_is Q (mentions (type_at a z) x) (default_type p t a.held z) (type_at a z) (λ _. types_default o) (types_kept o j)))
            (λ c. cond_is Q (x == z) q (type_at a z)
            (λ i h. let q_free = false_from_ne_true (mentions q x) (λ u. clash (is_control p x) (over_gives p d t t_in w.holders a.held f.held q k.over x u).1 c) in
            subst SameAfter (eqb-true x z i) (same_x (g.same (unmentioned q q_free h))))
            (λ i. let j : z ≢ x = λ j. clash (x == z) (eq-eqb x z (sym j)) i in types_kept o j (free_of c)))
          where
            Q : Term → Type 0
            Q r = Holds r after1 → SameAfter z

            changed : Term
            changed = cond (mentions (type_at a z) x) (default_type p t a.held z) (type_at a z)

        over_at : OverStableControls p t w.holders (assigned_type p t a.held x q retypes z (type_at a z))
        over_at =
            cond_is O (is_control p x) (unwrap_or (listed retypes z) changed) (cond (x == z) q (type_at a z))
            (λ _. listed_is O retypes z changed
            (each_map _ _ _ retypes (λ y r c _ _. over_gives p d t t_in w.holders a.held f.held r c.1) k.retypes_over k.retyped)
            (cond_is O (mentions (type_at a z) x) (default_type p t a.held z) (type_at a z)
            (λ _. cond_is O (is_hidden p t a.held z) (const 0) (class_of p z) (λ _ y u. cc)
            (λ _. class_over p d t t_in w.holders a.held f.held z s))
            (λ _. f.types_over z s n)))
            (λ _. cond_is O (x == z) q (type_at a z) (λ _. over_gives p d t t_in w.holders a.held f.held q k.over) (λ _. f.types_over z s n))
          where
            O : Term → Type 0
            O r = OverStableControls p t w.holders r

            changed : Term
            changed = cond (mentions (type_at a z) x) (default_type p t a.held z) (type_at a z)

      -- The variable has the value of the expression afterwards, where all is stable.
      equation : (m : List ℕ) (v : ℕ) → get_or (set m x v) x 0 ≡ v → v ≡ value e m → mentions e x ≡ false
          → Holds (bin Eq (var x) e) (set m x v)
      equation m v i j n = equal_values (get_or (set m x v) x 0) (value e (set m x v)) (i ∙ j ∙ sym (value_set e m x v n))

      fits_after : Fits p t (after_assign p t a x e q retypes) (stored p t w x v1 v2)
      fits_after = record {
        settled = settled;
        sized = f.sized;
        held = f.held;
        preds1 = with_if_holds (keeps_value p t a.held x e) kept (bin Eq (var x) e) after1
            (filter_holds unmentioned_in a.preds w.left after1 (λ r i h z. h (sym (value_set r w.left x v1 (not-true _ i)) ∙ z)) f.preds1)
            (λ i. equation w.left v1 at_x1 (g.value1 (e_all i)) (e_free i));
        preds2 = with_if_holds (keeps_value p t a.held x e) kept (bin Eq (var x) e) after2
            (filter_holds unmentioned_in a.preds w.right after2 (λ r i h z. h (sym (value_set r w.right x v2 (not-true _ i)) ∙ z)) f.preds2)
            (λ i. equation w.right v2 at_x2 (g.value2 (e_all i)) (e_free i));
        over = with_if_over p t w.holders (keeps_value p t a.held x e) kept (bin Eq (var x) e)
            (filter_over p t w.holders w.holders unmentioned_in a.preds (λ r i o. o) f.over)
            (λ i y u. ⊎_elim (λ j. subst (λ z. IsStableNow p w.holders t z) (eqb-true x y j) (x_stable i)) (λ j. e_all i y j)
            (or_cases (x == y) (mentions e y) u));
        types = λ z s n o.
            retyped_is (λ r. Holds r after1 → SameAfter z) (assigned_type p t a.held x q retypes) a.types z
            (λ h. absurd (not_const_zero after1 h)) (types_at z s n o);
        types_over = λ z s n.
            retyped_is (λ r. OverStableControls p t w.holders r) (assigned_type p t a.held x q retypes) a.types z (λ y u. cc) (over_at z s n);
      }
        where
          unmentioned_in : Term → Bool
          unmentioned_in r = not (mentions r x)

          kept : List Term
          kept = filter unmentioned_in a.preds

          stable_test : Bool
          stable_test = is_stable p t a.held x && is_over_stable p t a.held e

          x_stable : keeps_value p t a.held x e ≡ true → IsStableNow p w.holders t x
          x_stable i =
              stable_gives p d t t_in w.holders a.held f.held x
              (left_true (is_stable p t a.held x) (is_over_stable p t a.held e) (left_true stable_test (not (mentions e x)) i))

          e_all : keeps_value p t a.held x e ≡ true → AllStable p t w.holders e
          e_all i =
              all_stable p d t t_in w.holders a.held f.held e
              (right_true (is_stable p t a.held x) (is_over_stable p t a.held e) (left_true stable_test (not (mentions e x)) i))

          e_free : keeps_value p t a.held x e ≡ true → mentions e x ≡ false
          e_free i = not-true (mentions e x) (right_true stable_test (not (mentions e x)) i)

  pub assign_ok : AssignOk p t x e a (after_assign p t a x e q retypes)
  assign_ok = record {
    q = q;
    words = k.words;
    q_stable = q_stable;
    writable = λ w f. writable p d t t_in w.holders a.held f.held x k.writes;
    evaluated = evaluated;
    after_store = λ w v1 v2 f g. fits_after w f v1 v2 g;
  }
