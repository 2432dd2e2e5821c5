-- Loops that give each variable in turn what a function says of it.
use Rattle.std.proofs.Common.{◌≡◌, ◌≢◌, subst, ℕ, ◌+◌, ◌<◌, ◌≤◌, ◌⊎◌, List, Bool, true, false, length, get_or, set, refl, sym, ap, ◌∙◌, arith, nat_lt, Option, None, if◌then◌else◌, inl, inr}
use Rattle.std.proofs.lemmas.List.{length-set, same_lists, get_or-set_same, get_or-set_other, get_or_default}
use Rattle.std.proofs.lemmas.Bool.{cases_eq, lt-ltb, le-ltb, ltb-true, ltb-false}
use Rattle.cov_expr.specs.Term.{Term}
use Rattle.point_law.specs.After.{updated}
use Rattle.point_law.proofs.PointLaws.{length-updated, updated_at, updated_same, updated_none}

-- the variables below a number have theirs
abbrev pub below : (ℕ → Option Term → Option Term) → ℕ → ℕ → Option Term → Option Term
below f k z q = if nat_lt z k then f z q else q

abbrev pub upto : (ℕ → Option Term → Option Term) → List (Option Term) → ℕ → List (Option Term)
upto f qs k = updated (below f k) qs

pub nat_side : (z k : ℕ) → (z < k) ⊎ (k ≤ z)
nat_side z k = at (nat_lt z k) refl
  where
    at : (b : Bool) → nat_lt z k ≡ b → (z < k) ⊎ (k ≤ z)
    at true e = inl (ltb-true z k e)
    at false e = inr (ltb-false z k e)

module _ (f : ℕ → Option Term → Option Term) where
  below_is : (k z : ℕ) (q : Option Term) → z < k → below f k z q ≡ f z q
  below_is k z q lt = ap (λ b. if b then f z q else q) (lt-ltb z k lt)

  above_is : (k z : ℕ) (q : Option Term) → k ≤ z → below f k z q ≡ q
  above_is k z q le = ap (λ b. if b then f z q else q) (le-ltb z k le)

  same_below : (k z : ℕ) (q : Option Term) → k ≢ z → below f k z q ≡ below f (k + 1) z q
  same_below k z q ne = elim (nat_side z k) [
    | inl lt ↦ below_is k z q lt ∙ sym (below_is (k + 1) z q (omega arith))
    | inr le ↦ above_is k z q le ∙ sym (above_is (k + 1) z q (omega arith))
  ]

  pub upto_none : (qs : List (Option Term)) → upto f qs 0 ≡ qs
  upto_none qs = updated_none (below f 0) qs (λ z q. above_is 0 z q (omega arith))

  pub upto_all : (qs : List (Option Term)) (k : ℕ) → length qs ≤ k → upto f qs k ≡ updated f qs
  upto_all qs k le = updated_same (below f k) f qs qs refl (λ z d lt. below_is k z (get_or qs z d) (omega arith))

  pub upto_more : (qs : List (Option Term)) (k : ℕ) → set (upto f qs k) k (f k (get_or (upto f qs k) k None)) ≡ upto f qs (k + 1)
  upto_more qs k =
      let new = f k (get_or (upto f qs k) k None) in
      let size = length-updated (below f k) qs in
      same_lists (set (upto f qs k) k new) (upto f qs (k + 1)) (length-set (upto f qs k) k new ∙ size ∙ sym (length-updated (below f (k + 1)) qs))
      (λ z d lt. let inside : z < length qs = omega (arith, length-set (upto f qs k) k new, size) in
      elim (cases_eq k z) [
        | inl e ↦ subst (λ y. get_or (set (upto f qs k) k new) y d ≡ get_or (upto f qs (k + 1)) y d) e
            (let here : k < length qs = omega (arith, e) in
            get_or-set_same (upto f qs k) k new d (omega (arith, size))
            ∙ ap (f k) (updated_at (below f k) qs k None here ∙ above_is k k (get_or qs k None) (omega arith) ∙ get_or_default qs k None d here)
            ∙ sym (updated_at (below f (k + 1)) qs k d here ∙ below_is (k + 1) k (get_or qs k d) (omega arith)))
        | inr ne ↦ get_or-set_other (upto f qs k) k z new d (λ e. ne (sym e))
            ∙ updated_at (below f k) qs z d inside ∙ same_below k z (get_or qs z d) ne ∙ sym (updated_at (below f (k + 1)) qs z d inside)
      ])

  -- variables that keep what they had may be passed over
  pub upto_pass : (qs : List (Option Term)) (a b : ℕ) → a ≤ b → ((k : ℕ) → a ≤ k → k < b → k < length qs → f k (get_or qs k None) ≡ get_or qs k None)
      → upto f qs a ≡ upto f qs b
  upto_pass qs a b le same =
      updated_same (below f a) (below f b) qs qs refl
      (λ z d lt. elim (nat_side z a) [
        | inl low ↦ below_is a z (get_or qs z d) low ∙ sym (below_is b z (get_or qs z d) (omega arith))
        | inr high ↦ above_is a z (get_or qs z d) high ∙ sym (elim (nat_side z b) [
          | inl before ↦ below_is b z (get_or qs z d) before ∙ ap (f z) (get_or_default qs z d None lt) ∙ same z high before lt ∙ get_or_default qs z None d lt
          | inr past ↦ above_is b z (get_or qs z d) past
        ])
      ])

  -- where the rest keeps what it had, all have theirs
  pub upto_end : (qs : List (Option Term)) (a n : ℕ) → length qs ≤ n → ((k : ℕ) → a ≤ k → k < n → k < length qs → f k (get_or qs k None) ≡ get_or qs k None)
      → upto f qs a ≡ updated f qs
  upto_end qs a n small same = elim (nat_side a n) [
    | inl lt ↦ upto_pass qs a n (omega arith) same ∙ upto_all qs n small
    | inr past ↦ upto_all qs a (omega arith)
  ]

  -- what isn't reached yet is as it was
  pub upto_from : (qs : List (Option Term)) (a k : ℕ) → a ≤ k → k < length qs → get_or (upto f qs a) k None ≡ get_or qs k None
  upto_from qs a k le lt = updated_at (below f a) qs k None lt ∙ above_is a k (get_or qs k None) le
