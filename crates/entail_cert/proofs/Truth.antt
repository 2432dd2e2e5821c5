-- What holds in a memory, part by part.
use Rattle.std.proofs.Common.{◌≡◌, ◌≢◌, ℕ, zero, suc, ◌==◌, ◌&&◌, ◌||◌, not, List, [], ◌∷◌, ◌++◌, Bool, true, false, Option, Some, None, refl, ◌∙◌, ap, subst, ◌⊎◌, inl, inr, slice_get, if◌then◌else◌, arith, ◌^◌}
use Rattle.std.proofs.lemmas.Bool.{eqb-true, ltb-true, lt-ltb, and_from, not-true, or_cases}
use Rattle.std.proofs.lemmas.Bool.Decides.{nat_tests}
use Rattle.std.specs.List.{list_any, list_all}
use Rattle.cov_expr.specs.declared.expr.Op.{Op}
use Rattle.cov_expr.specs.declared.expr.Op.TheVariants.{Eq, Both, Either}
use Rattle.cov_expr.specs.declared.expr.TheConstants.{HOLE}
use Rattle.cov_expr.specs.Term.{Term, const, var, neg, bin, value, apply, flag, is_set}
use Rattle.cov_expr.specs.Trees.{op_number, same, is_closed, conjuncts, has_term, has_conjunct}
use Rattle.cov_expr.specs.Words.{HasVarsBelow, HasWords}
use Rattle.cov_expr.specs.Entailment.{Holds, AllHold}
use Rattle.cov_expr.proofs.Trees.{same_is, op_is}
use Rattle.cov_expr.proofs.Values.{value-closed, set_holds}
use Rattle.cov_expr.proofs.Tests.{left_true, right_true}
use Rattle.entail_cert.specs.Axioms.{numbered}
use Rattle.entail_cert.specs.WordTests.{is_of_words}
use Rattle.entail_cert.specs.Valid.{is_true, is_false, is_known, is_plain, operands, operands_of, negated, filled}

-- Truth values -------------------------------------------------------------------------------------------------

unset_is : (v : ℕ) → is_set v ≡ false → v ≡ 0
unset_is zero h = refl
unset_is (suc v) h = let e : true ≡ false = h in cc

pub both_left : (x y : ℕ) → apply Both x y ≢ 0 → x ≢ 0
both_left zero y h = λ e. h refl
both_left (suc x) y h = λ e. cc

pub both_right : (x y : ℕ) → apply Both x y ≢ 0 → y ≢ 0
both_right zero y h = λ e. h refl
both_right (suc x) zero h = λ e. h refl
both_right (suc x) (suc y) h = λ e. cc

pub both_of : (x y : ℕ) → x ≢ 0 → y ≢ 0 → apply Both x y ≢ 0
both_of zero y h k = λ e. h refl
both_of (suc x) zero h k = λ e. k refl
both_of (suc x) (suc y) h k = λ e. let c : ◌≡◌ {A = ℕ} 1 0 = e in cc

pub either_left : (x y : ℕ) → x ≢ 0 → apply Either x y ≢ 0
either_left zero y h = λ e. h refl
either_left (suc x) y h = λ e. let c : ◌≡◌ {A = ℕ} 1 0 = e in cc

pub either_right : (x y : ℕ) → y ≢ 0 → apply Either x y ≢ 0
either_right zero zero h = λ e. h refl
either_right zero (suc y) h = λ e. let c : ◌≡◌ {A = ℕ} 1 0 = e in cc
either_right (suc x) y h = λ e. let c : ◌≡◌ {A = ℕ} 1 0 = e in cc

pub either_cases : (x y : ℕ) → apply Either x y ≢ 0 → (x ≢ 0) ⊎ (y ≢ 0)
either_cases zero zero h = inl (λ e. h refl)
either_cases zero (suc y) h = inr (λ e. cc)
either_cases (suc x) y h = inl (λ e. cc)

pub neg_fails : (x : ℕ) → flag (not (is_set x)) ≢ 0 → x ≢ 0 → ⊥
neg_fails zero h k = k refl
neg_fails (suc x) h k = h refl

-- what holds where a value isn't 0, and where it is
pub either_way : (x : ℕ) (A : Type 0) → (x ≢ 0 → A) → (flag (not (is_set x)) ≢ 0 → A) → A
either_way zero A h k = k (λ e. let c : ◌≡◌ {A = ℕ} 1 0 = e in cc)
either_way (suc x) A h k = h (λ e. cc)

-- Parts --------------------------------------------------------------------------------------------------------

pub operands_is : (op : Op) (e : Term) (p : Term × Term) → operands op e ≡ Some p → e ≡ bin op p.0 p.1
operands_is op (const k) p h = let c : ◌≡◌ {A = Option (Term × Term)} None (Some p) = h in cc
operands_is op (var x) p h = let c : ◌≡◌ {A = Option (Term × Term)} None (Some p) = h in cc
operands_is op (neg e) p h = let c : ◌≡◌ {A = Option (Term × Term)} None (Some p) = h in cc
operands_is op (bin o a b) p h = at (op_number o == op_number op) refl h
  where
    at : (t : Bool) → (op_number o == op_number op) ≡ t → ◌≡◌ {A = Option (Term × Term)} (if t then Some (a, b) else None) (Some p) → bin o a b ≡ bin op p.0 p.1
    at true i k =
        let q : o ≡ op = op_is o op (eqb-true (op_number o) (op_number op) i) in
        let r : (a, b) ≡ p = cc in
        ap (λ o. bin o a b) q ∙ ap (λ (p : Term × Term). bin op p.0 p.1) r
    at false i k = let c : ◌≡◌ {A = Option (Term × Term)} None (Some p) = k in cc

pub operands_of_is : (op : Op) (o : Option Term) (p : Term × Term) → operands_of op o ≡ Some p → o ≡ Some (bin op p.0 p.1)
operands_of_is op None p h = let c : ◌≡◌ {A = Option (Term × Term)} None (Some p) = h in cc
operands_of_is op (Some e) p h = ap Some (operands_is op e p h)

pub negated_is : (e a : Term) → negated e ≡ Some a → e ≡ neg a
negated_is (const k) a h = let c : ◌≡◌ {A = Option Term} None (Some a) = h in cc
negated_is (var x) a h = let c : ◌≡◌ {A = Option Term} None (Some a) = h in cc
negated_is (neg e) a h = let i : e ≡ a = cc in ap neg i
negated_is (bin o c d) a h = let c : ◌≡◌ {A = Option Term} None (Some a) = h in cc

pub closed_below : (e : Term) (n : ℕ) → is_closed e ≡ true → HasVarsBelow e n
closed_below (const k) n h = tt
closed_below (var x) n h = let c : false ≡ true = h in cc
closed_below (neg e) n h = closed_below e n h
closed_below (bin op a b) n h = (closed_below a n (left_true (is_closed a) (is_closed b) h), closed_below b n (right_true (is_closed a) (is_closed b) h))

-- words
pub words_of : (e : Term) → is_of_words e ≡ true → HasWords e
words_of (const k) h = ltb-true k (2 ^ 32) h
words_of (var x) h = ltb-true x (2 ^ 32) h
words_of (neg e) h = words_of e h
words_of (bin op a b) h = (words_of a (left_true (is_of_words a) (is_of_words b) h), words_of b (right_true (is_of_words a) (is_of_words b) h))

pub has_words : (e : Term) → HasWords e → is_of_words e ≡ true
has_words (const k) w = lt-ltb k (2 ^ 32) w
has_words (var x) w = lt-ltb x (2 ^ 32) w
has_words (neg e) w = has_words e w
has_words (bin op a b) w = and_from (is_of_words a) (is_of_words b) (has_words a w.0) (has_words b w.1)

-- In a memory --------------------------------------------------------------------------------------------------

module _ (m : List ℕ) where
  pub true_holds : (e : Term) → is_true e ≡ true → Holds e m
  true_holds e h = λ z. set_holds (value e []) (right_true (is_closed e) (is_set (value e [])) h)
      (value-closed e [] m (left_true (is_closed e) (is_set (value e [])) h) ∙ z)

  pub false_fails : (e : Term) → is_false e ≡ true → Holds e m → ⊥
  false_fails e h k =
      k (value-closed e m [] (left_true (is_closed e) (not (is_set (value e []))) h)
      ∙ unset_is (value e []) (not-true (is_set (value e [])) (right_true (is_closed e) (not (is_set (value e []))) h)))

  pub all_left : (es fs : List Term) → AllHold (es ++ fs) m → AllHold es m
  all_left [] fs h = tt
  all_left (e ∷ es) fs h = (h.0, all_left es fs h.1)

  pub all_right : (es fs : List Term) → AllHold (es ++ fs) m → AllHold fs m
  all_right [] fs h = h
  all_right (e ∷ es) fs h = all_right es fs h.1

  pub all_both : (es fs : List Term) → AllHold es m → AllHold fs m → AllHold (es ++ fs) m
  all_both [] fs h k = k
  all_both (e ∷ es) fs h k = (h.0, all_both es fs h.1 k)

  slice_holds : (es : List Term) (i : ℕ) (e : Term) → slice_get es i ≡ Some e → AllHold es m → Holds e m
  slice_holds [] i e h k = let c : ◌≡◌ {A = Option Term} None (Some e) = h in cc
  slice_holds (f ∷ es) zero e h k = let i : f ≡ e = cc in subst (λ e. Holds e m) i k.0
  slice_holds (f ∷ es) (suc i) e h k = slice_holds es i e h k.1

  pub numbered_holds : (es : List Term) (i : ℕ) (e : Term) → numbered es i ≡ Some e → AllHold es m → Holds e m
  numbered_holds es zero e h k = let c : ◌≡◌ {A = Option Term} None (Some e) = h in cc
  numbered_holds es (suc i) e h k = slice_holds es i e h k

  member_holds : (es : List Term) (e : Term) → has_term es e ≡ true → AllHold es m → Holds e m
  member_holds [] e h k = let c : false ≡ true = h in cc
  member_holds (f ∷ fs) e h k =
      elim (or_cases (same f e) (has_term fs e) h) [
        | inl i ↦ subst (λ e. Holds e m) (same_is f e i) k.0
        | inr i ↦ member_holds fs e i k.1
      ]

  conjuncts_hold : (e : Term) → Holds e m → AllHold (conjuncts e) m
  conjuncts_hold (bin Both a b) h =
      all_both (conjuncts a) (conjuncts b) (conjuncts_hold a (both_left (value a m) (value b m) h))
      (conjuncts_hold b (both_right (value a m) (value b m) h))
  conjuncts_hold _ h = (h, tt)

  from_conjuncts : (e : Term) → AllHold (conjuncts e) m → Holds e m
  from_conjuncts (bin Both a b) h =
      both_of (value a m) (value b m) (from_conjuncts a (all_left (conjuncts a) (conjuncts b) h))
      (from_conjuncts b (all_right (conjuncts a) (conjuncts b) h))
  from_conjuncts _ h = h.0

  known_holds : (hyps : List Term) (e : Term) → is_known hyps e ≡ true → AllHold hyps m → Holds e m
  known_holds [] e h k = let c : false ≡ true = h in cc
  known_holds (f ∷ hyps) e h k =
      elim (or_cases (has_conjunct f e) (is_known hyps e) h) [
        | inl i ↦ member_holds (conjuncts f) e i (conjuncts_hold f k.0)
        | inr i ↦ known_holds hyps e i k.1
      ]

  any_false_fails : (hyps : List Term) → list_any is_false hyps ≡ true → AllHold hyps m → ⊥
  any_false_fails [] h k = let c : false ≡ true = h in cc
  any_false_fails (f ∷ hyps) h k =
      elim (or_cases (is_false f) (list_any is_false hyps) h) [
        | inl i ↦ false_fails f i k.0
        | inr i ↦ any_false_fails hyps i k.1
      ]

  each_holds : (hyps es : List Term) → list_all (λ e. is_true e || is_known hyps e) es ≡ true → AllHold hyps m → AllHold es m
  each_holds hyps [] h k = tt
  each_holds hyps (e ∷ es) h k = (
    elim (or_cases (is_true e) (is_known hyps e) (left_true (is_true e || is_known hyps e) (list_all (λ e. is_true e || is_known hyps e) es) h)) [
      | inl i ↦ true_holds e i
      | inr i ↦ known_holds hyps e i k
    ],
    each_holds hyps es (right_true (is_true e || is_known hyps e) (list_all (λ e. is_true e || is_known hyps e) es) h) k,
  )

  pub plain_holds : (hyps : List Term) (goal : Term) → is_plain hyps goal ≡ true → AllHold hyps m → Holds goal m
  plain_holds hyps goal h k =
      elim (or_cases (list_any is_false hyps) (list_all (λ e. is_true e || is_known hyps e) (conjuncts goal)) h) [
        | inl i ↦ absurd (any_false_fails hyps i k)
        | inr i ↦ from_conjuncts goal (each_holds hyps (conjuncts goal) i k)
      ]

  -- a template with equal values in its holes
  pub filled_same : (t a b : Term) → value a m ≡ value b m → value (filled t a) m ≡ value (filled t b) m
  filled_same (const k) a b e = refl
  filled_same (var x) a b e = elim (x == HOLE) as (λ c. value (if c then a else var x) m ≡ value (if c then b else var x) m) [ true ↦ e | false ↦ refl ]
  filled_same (neg t) a b e = ap (λ v. flag (not (is_set v))) (filled_same t a b e)
  filled_same (bin op t u) a b e =
      ap (λ v. apply op v (value (filled u a) m)) (filled_same t a b e) ∙ ap (λ v. apply op (value (filled t b) m) v) (filled_same u a b e)
