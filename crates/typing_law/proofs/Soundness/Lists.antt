-- Truth of lists of expressions, and lists of types.
use Rattle.std.proofs.Common.{◌≡◌, ℕ, zero, suc, ◌+◌, ◌==◌, not, List, [], ◌∷◌, ◌++◌, get_or, true, false, Option, Some, None, cond, refl, sym, ◌∙◌, subst, arith, IsTrue, ⊎_elim, eqb-true, if◌then◌else◌, unwrap_or, option_map, add-zero}
use Rattle.std.specs.Option.{option_or}
use Rattle.std.proofs.lemmas.Bool.{or_cases, or_left, or_right}
use Rattle.cov_expr.specs.declared.expr.Op.TheVariants.{Both}
use Rattle.cov_expr.specs.Entailment.{Holds, AllHold}
use Rattle.cov_expr.specs.Term.{Term, const, var, neg, bin, value}
use Rattle.cov_expr.specs.Trees.{same, conjuncts, has_term, occurrences, has_number, vars, mentions}
use Rattle.cov_expr.proofs.Trees.{same_is}
use Rattle.entail_cert.proofs.Truth.{all_left, all_right, all_both, both_left, both_right, both_of}
use Rattle.mode_compat.proofs.Apart.{in_distinct}
use Rattle.point_law.specs.Terms.{with_term, with_terms, distinct_terms, is_one, without_ones, joined_from, joined, listed}
use Rattle.point_law.specs.After.{updated_from, updated, retyped}
use Rattle.typing_law.proofs.Soundness.Conditions.{EachType}
use Rattle.typing_law.proofs.Soundness.Static.{cond_is}

-- Truth --------------------------------------------------------------------------------------------------------

module _ (m : List ℕ) where
  pub member_holds : (es : List Term) (e : Term) → IsTrue (has_term es e) → AllHold es m → Holds e m
  member_holds [] e h k = absurd (let c : false ≡ true = h in cc)
  member_holds (f ∷ fs) e h k =
      ⊎_elim (λ i. subst (λ e. Holds e m) (same_is f e i) k.0) (λ i. member_holds fs e i k.1) (or_cases (same f e) (has_term fs e) h)

  pub with_holds : (es : List Term) (e : Term) → AllHold es m → Holds e m → AllHold (with_term es e) m
  with_holds es e h k = cond_is (λ fs. AllHold fs m) (has_term es e) es (es ++ e ∷ []) (λ _. h) (λ _. all_both m es (e ∷ []) h (k, tt))

  with_gives : (es : List Term) (e : Term) → AllHold (with_term es e) m → AllHold es m × Holds e m
  with_gives es e =
      cond_is (λ fs. AllHold fs m → AllHold es m × Holds e m) (has_term es e) es (es ++ e ∷ [])
      (λ i h. (h, member_holds es e i h)) (λ _ h. (all_left m es (e ∷ []) h, (all_right m es (e ∷ []) h).0))

  all_with_holds : (es fs : List Term) → AllHold es m → AllHold fs m → AllHold (with_terms es fs) m
  all_with_holds es [] h k = h
  all_with_holds es (f ∷ fs) h k = all_with_holds (with_term es f) fs (with_holds es f h k.0) k.1

  all_with_gives : (es fs : List Term) → AllHold (with_terms es fs) m → AllHold es m × AllHold fs m
  all_with_gives es [] h = (h, tt)
  all_with_gives es (f ∷ fs) h = let r = all_with_gives (with_term es f) fs h in let q = with_gives es f r.0 in (q.0, (q.1, r.1))

  pub distinct_holds : (es : List Term) → AllHold es m → AllHold (distinct_terms es) m
  distinct_holds es h = all_with_holds [] es tt h

  distinct_gives : (es : List Term) → AllHold (distinct_terms es) m → AllHold es m
  distinct_gives es h = (all_with_gives [] es h).1

  one_is : (e : Term) → IsTrue (is_one e) → Holds e m
  one_is (const k) h z = let i : k ≡ 1 = eqb-true k 1 h in let b : ◌≡◌ {A = ℕ} 1 0 = sym i ∙ z in cc
  one_is (var x) h z = cc
  one_is (neg e) h z = cc
  one_is (bin op a b) h z = cc

  ones_hold : (es : List Term) → AllHold (without_ones es) m → AllHold es m
  ones_hold [] h = tt
  ones_hold (e ∷ es) h =
      elim (is_one e) as (λ b. is_one e ≡ b → AllHold (cond (not b) (e ∷ without_ones es) (without_ones es)) m → Holds e m × AllHold es m) [
        | true ↦ (λ i k. (one_is e i, ones_hold es k))
        | false ↦ (λ i k. (k.0, ones_hold es k.1))
      ] refl h

  joined_from_gives : (e : Term) (fs : List Term) → Holds (joined_from e fs) m → Holds e m × AllHold fs m
  joined_from_gives e [] h = (h, tt)
  joined_from_gives e (f ∷ fs) h =
      let r = joined_from_gives (bin Both e f) fs h in (both_left (value e m) (value f m) r.0, (both_right (value e m) (value f m) r.0, r.1))

  joined_gives : (es : List Term) → Holds (joined es) m → AllHold es m
  joined_gives [] h = tt
  joined_gives (e ∷ es) h = joined_from_gives e es h

  pub parts_hold : (e : Term) → AllHold (conjuncts e) m → Holds e m
  parts_hold (bin Both a b) h =
      both_of (value a m) (value b m) (parts_hold a (all_left m (conjuncts a) (conjuncts b) h))
      (parts_hold b (all_right m (conjuncts a) (conjuncts b) h))
  parts_hold _ h = h.0

  -- A conjunction without repeats gives each of its parts.
  pub all_joined_hold : (es : List Term) → Holds (joined (distinct_terms (without_ones es))) m → AllHold es m
  all_joined_hold es h = ones_hold es (distinct_gives (without_ones es) (joined_gives (distinct_terms (without_ones es)) h))

-- Variables ----------------------------------------------------------------------------------------------------

pub has_left : (a b : List ℕ) (y : ℕ) → IsTrue (has_number a y) → IsTrue (has_number (a ++ b) y)
has_left [] b y h = absurd (let c : false ≡ true = h in cc)
has_left (x ∷ a) b y h = ⊎_elim (λ i. or_left _ _ i) (λ i. or_right (x == y) _ (has_left a b y i)) (or_cases (x == y) (has_number a y) h)

pub has_right : (a b : List ℕ) (y : ℕ) → IsTrue (has_number b y) → IsTrue (has_number (a ++ b) y)
has_right [] b y h = h
has_right (x ∷ a) b y h = or_right (x == y) _ (has_right a b y h)

in_occurrences : (e : Term) (y : ℕ) → IsTrue (mentions e y) → IsTrue (has_number (occurrences e) y)
in_occurrences (const k) y h = absurd (let c : false ≡ true = h in cc)
in_occurrences (var x) y h = or_left _ _ h
in_occurrences (neg e) y h = in_occurrences e y h
in_occurrences (bin op a b) y h =
    ⊎_elim (λ i. has_left (occurrences a) (occurrences b) y (in_occurrences a y i))
    (λ i. has_right (occurrences a) (occurrences b) y (in_occurrences b y i))
    (or_cases (mentions a y) (mentions b y) h)

pub in_vars : (e : Term) (y : ℕ) → IsTrue (mentions e y) → IsTrue (has_number (vars e) y)
in_vars e y h = in_distinct (occurrences e) y (in_occurrences e y h)

-- Types --------------------------------------------------------------------------------------------------------

-- what a list has for a variable, or what stands for it where it has nothing
pub listed_is : (Q : Term → Type 0) (l : List (ℕ × Term)) (z : ℕ) (d : Term) → EachType l (λ y r. y ≡ z → Q r) → Q d → Q (unwrap_or (listed l z) d)
listed_is Q [] z d h k = k
listed_is Q (r ∷ rs) z d h k =
    elim (listed rs z) as (λ o. Q (unwrap_or o d) → Q (unwrap_or (option_or o (if r.0 == z then Some r.1 else None)) d)) [
      | None ↦ (λ i. cond_is (λ o. Q (unwrap_or o d)) (r.0 == z) (Some r.1) None (λ e. h.0 (eqb-true r.0 z e)) (λ _. i))
      | Some s ↦ (λ i. i)
    ] (listed_is Q rs z d h.1 k)

pub each_map : (P R S : ℕ → Term → Type 0) (l : List (ℕ × Term)) → ((z : ℕ) (r : Term) → P z r → R z r → S z r) → EachType l P → EachType l R
    → EachType l S
each_map P R S [] f h k = tt
each_map P R S (r ∷ rs) f h k = (f r.0 r.1 h.0 k.0, each_map P R S rs f h.1 k.1)

updated_from_is : (Q : Option Term → Type 0) (change : ℕ → Option Term → Option Term) (ts : List (Option Term)) (a x : ℕ) → Q None
    → Q (change (a + x) (get_or ts x None)) → Q (get_or (updated_from a change ts) x None)
updated_from_is Q change [] a x n k = n
updated_from_is Q change (q ∷ ts) a zero n k = subst (λ y. Q (change y q)) (add-zero a) k
updated_from_is Q change (q ∷ ts) a (suc x) n k =
    updated_from_is Q change ts (suc a) x n (let e : a + suc x ≡ suc a + x = omega arith in subst (λ y. Q (change y (get_or ts x None))) e k)

-- the type of a variable after an update, if it has one
pub updated_is : (Q : Option Term → Type 0) (change : ℕ → Option Term → Option Term) (ts : List (Option Term)) (x : ℕ) → Q None
    → Q (change x (get_or ts x None))
    → Q (get_or (updated change ts) x None)
updated_is Q change ts x n k = updated_from_is Q change ts 0 x n (let e : x ≡ 0 + x = omega arith in subst (λ y. Q (change y (get_or ts x None))) e k)

-- the type of a variable, where each type is replaced
pub retyped_is : (Q : Term → Type 0) (change : ℕ → Term → Term) (ts : List (Option Term)) (x : ℕ) → Q (const 0)
    → Q (change x (unwrap_or (get_or ts x None) (const 0))) → Q (unwrap_or (get_or (retyped change ts) x None) (const 0))
retyped_is Q change ts x n k =
    updated_is (λ o. Q (unwrap_or o (const 0))) (λ x q. option_map (change x) q) ts x n
    (elim (get_or ts x None) as (λ o. Q (change x (unwrap_or o (const 0))) → Q (unwrap_or (option_map (change x) o) (const 0))) [
      | None ↦ (λ _. n)
      | Some g ↦ (λ i. i)
    ] k)
