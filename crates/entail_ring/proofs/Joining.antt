-- What joining makes of terms.
use Rattle.std.proofs.Common.{◌≡◌, ℕ, ◌+◌, ◌%◌, ◌^◌, ◌<◌, ◌==◌, List, [], ◌∷◌, Bool, true, false, refl, sym, ◌∙◌, ap, subst, arith, if◌then◌else◌}
use Rattle.std.proofs.lemmas.Bool.{eqb-true, eqb-false}
use Rattle.std.specs.Ordering.{is_eq}
use Rattle.std.specs.declared.cmp.Ordering.{Ordering}
use Rattle.std.specs.declared.cmp.Ordering.TheVariants.{Less, Equal, Greater}
use Rattle.entail_ring.specs.declared.monomials.Monomial.{Monomial}
use Rattle.entail_ring.specs.Polys.{term_of, order, put, placed, add, joined, IsBefore, IsPoly, coefficient}
use Rattle.entail_ring.proofs.Order.{order_equal, order_same, order_trans, order_back, is_equal}

-- Before a polynomial --------------------------------------------------------------------------------------------

pub before_all : (a b : List ℕ) (p : List Monomial) → order a b ≡ Less → IsBefore b p → IsBefore a p
before_all a b [] h k = tt
before_all a b (t ∷ p) h k = (order_trans a b t.atoms h k.0, before_all a b p h k.1)

pub before_put : (a : List ℕ) (c : ℕ) (b : List ℕ) (p : List Monomial) → order a b ≡ Less → IsBefore a p → IsBefore a (put c b p)
before_put a c b p h k = at (c % 2 ^ 32 == 0)
  where
    at : (z : Bool) → IsBefore a (if z then p else term_of (c % 2 ^ 32) b ∷ p)
    at true = k
    at false = (h, k)

before_placed : (a : List ℕ) (r : Ordering) (t u : Monomial) (p more : List Monomial) → order a t.atoms ≡ Less → IsBefore a (u ∷ p) → IsBefore a more → IsBefore a (placed r t u p more)
before_placed a Less t u p more h k i = before_put a t.coefficient t.atoms (u ∷ p) h k
before_placed a Equal t u p more h k i = before_put a (t.coefficient + u.coefficient) t.atoms p h k.1
before_placed a Greater t u p more h k i = (k.0, i)

before_add : (a : List ℕ) (t : Monomial) (p : List Monomial) → order a t.atoms ≡ Less → IsBefore a p → IsBefore a (add t p)
before_add a t [] h k = before_put a t.coefficient t.atoms [] h tt
before_add a t (u ∷ p) h k = before_placed a (order t.atoms u.atoms) t u p (add t p) h k (before_add a t p h k.1)

-- What is joined is a polynomial ---------------------------------------------------------------------------------

pub put_poly : (c : ℕ) (b : List ℕ) (p : List Monomial) → IsBefore b p → IsPoly p → IsPoly (put c b p)
put_poly c b p h k = at (c % 2 ^ 32 == 0) refl
  where
    at : (z : Bool) → (c % 2 ^ 32 == 0) ≡ z → IsPoly (if z then p else term_of (c % 2 ^ 32) b ∷ p)
    at true e = k
    at false e = let n = eqb-false (c % 2 ^ 32) 0 e in (omega arith, (omega arith, (h, k)))

placed_poly : (r : Ordering) (t u : Monomial) (p more : List Monomial) → order t.atoms u.atoms ≡ r → IsPoly (u ∷ p) → IsPoly more
    → (order u.atoms t.atoms ≡ Less → IsBefore u.atoms more) → IsPoly (placed r t u p more)
placed_poly Less t u p more e k i b = put_poly t.coefficient t.atoms (u ∷ p) (e, before_all t.atoms u.atoms p e k.1.1.0) k
placed_poly Equal t u p more e k i b =
    put_poly (t.coefficient + u.coefficient) t.atoms p (subst (λ a. IsBefore a p) (sym (order_equal t.atoms u.atoms e)) k.1.1.0) k.1.1.1
placed_poly Greater t u p more e k i b = (k.0, (k.1.0, (b (order_back t.atoms u.atoms e), i)))

pub add_poly : (t : Monomial) (p : List Monomial) → IsPoly p → IsPoly (add t p)
add_poly t [] k = put_poly t.coefficient t.atoms [] tt tt
add_poly t (u ∷ p) k =
    placed_poly (order t.atoms u.atoms) t u p (add t p) refl k (add_poly t p k.1.1.1) (λ h. before_add u.atoms t p h k.1.1.0)

pub joined_poly : (ts : List Monomial) → IsPoly (joined ts)
joined_poly [] = tt
joined_poly (t ∷ ts) = add_poly t (joined ts) (joined_poly ts)

-- Coefficients ---------------------------------------------------------------------------------------------------

-- what one term adds to the coefficient of a multiset
abbrev share : List ℕ → List ℕ → ℕ → ℕ
share a b c = if is_eq (order a b) then c else 0

coefficient_put : (c : ℕ) (b : List ℕ) (p : List Monomial) (a : List ℕ) → coefficient (put c b p) a % 2 ^ 32 ≡ (share a b c + coefficient p a) % 2 ^ 32
coefficient_put c b p a = at (c % 2 ^ 32 == 0) refl (is_eq (order a b)) refl
  where
    at : (z : Bool) → (c % 2 ^ 32 == 0) ≡ z → (s : Bool) → is_eq (order a b) ≡ s
        → coefficient (if z then p else term_of (c % 2 ^ 32) b ∷ p) a % 2 ^ 32 ≡ ((if s then c else 0) + coefficient p a) % 2 ^ 32
    at true e true s = let n = eqb-true (c % 2 ^ 32) 0 e in omega arith
    at true e false s = omega arith
    at false e true s = ap (λ z. ((if z then c % 2 ^ 32 else 0) + coefficient p a) % 2 ^ 32) s ∙ whole
      where
        whole : (c % 2 ^ 32 + coefficient p a) % 2 ^ 32 ≡ (c + coefficient p a) % 2 ^ 32
        whole = omega arith
    at false e false s = ap (λ z. ((if z then c % 2 ^ 32 else 0) + coefficient p a) % 2 ^ 32) s

share_both : (a b : List ℕ) (c d n : ℕ) → (share a b (c + d) + n) % 2 ^ 32 ≡ (share a b c + (share a b d + n)) % 2 ^ 32
share_both a b c d n = at (is_eq (order a b))
  where
    at : (s : Bool) → ((if s then c + d else 0) + n) % 2 ^ 32 ≡ ((if s then c else 0) + ((if s then d else 0) + n)) % 2 ^ 32
    at true = omega arith
    at false = omega arith

later : (x more y n : ℕ) → more % 2 ^ 32 ≡ (y + n) % 2 ^ 32 → (x + more) % 2 ^ 32 ≡ (y + (x + n)) % 2 ^ 32
later x more y n h = omega arith

coefficient_placed : (r : Ordering) (t u : Monomial) (p more : List Monomial) (a : List ℕ) → order t.atoms u.atoms ≡ r
    → coefficient more a % 2 ^ 32 ≡ coefficient (t ∷ p) a % 2 ^ 32
    → coefficient (placed r t u p more) a % 2 ^ 32 ≡ coefficient (t ∷ u ∷ p) a % 2 ^ 32
coefficient_placed Less t u p more a e h = coefficient_put t.coefficient t.atoms (u ∷ p) a
coefficient_placed Equal t u p more a e h =
    coefficient_put (t.coefficient + u.coefficient) t.atoms p a
    ∙ share_both a t.atoms t.coefficient u.coefficient (coefficient p a)
    ∙ ap (λ b. (share a t.atoms t.coefficient + (share a b u.coefficient + coefficient p a)) % 2 ^ 32) (order_equal t.atoms u.atoms e)
coefficient_placed Greater t u p more a e h =
    later (share a u.atoms u.coefficient) (coefficient more a) (share a t.atoms t.coefficient) (coefficient p a) h

coefficient_add : (t : Monomial) (p : List Monomial) (a : List ℕ) → coefficient (add t p) a % 2 ^ 32 ≡ coefficient (t ∷ p) a % 2 ^ 32
coefficient_add t [] a = coefficient_put t.coefficient t.atoms [] a
coefficient_add t (u ∷ p) a = coefficient_placed (order t.atoms u.atoms) t u p (add t p) a refl (coefficient_add t p a)

inside : (x more n : ℕ) → more % 2 ^ 32 ≡ n % 2 ^ 32 → (x + more) % 2 ^ 32 ≡ (x + n) % 2 ^ 32
inside x more n h = omega arith

pub coefficient_joined : (ts : List Monomial) (a : List ℕ) → coefficient (joined ts) a % 2 ^ 32 ≡ coefficient ts a % 2 ^ 32
coefficient_joined [] a = refl
coefficient_joined (t ∷ ts) a =
    coefficient_add t (joined ts) a ∙ inside (share a t.atoms t.coefficient) (coefficient (joined ts) a) (coefficient ts a) (coefficient_joined ts a)

-- Polynomials by their coefficients --------------------------------------------------------------------------------

share_apart : (a b : List ℕ) (c : ℕ) → order a b ≡ Less → share a b c ≡ 0
share_apart a b c e = ap (λ r. if is_eq r then c else 0) e

share_here : (a b : List ℕ) (c : ℕ) → order a b ≡ Equal → share a b c ≡ c
share_here a b c e = ap (λ r. if is_eq r then c else 0) e

coefficient_before : (a : List ℕ) (p : List Monomial) → IsBefore a p → coefficient p a ≡ 0
coefficient_before a [] h = refl
coefficient_before a (t ∷ p) h =
    let x = share_apart a t.atoms t.coefficient h.0 in
    let y = coefficient_before a p h.1 in
    omega arith

-- a multiset is that of the first term, or the first term counts nothing
coefficient_small : (p : List Monomial) (a : List ℕ) → IsPoly p → coefficient p a < 2 ^ 32
coefficient_small [] a h = omega arith
coefficient_small (t ∷ p) a h = at (is_eq (order a t.atoms)) refl (coefficient_small p a h.1.1.1)
  where
    at : (s : Bool) → is_eq (order a t.atoms) ≡ s → coefficient p a < 2 ^ 32 → (if s then t.coefficient else 0) + coefficient p a < 2 ^ 32
    at true e i =
        let same = order_equal a t.atoms (is_equal (order a t.atoms) e) in
        let none = coefficient_before a p (subst (λ b. IsBefore b p) (sym same) h.1.1.0) in
        let small : t.coefficient < 2 ^ 32 = h.1.0 in
        omega arith
    at false e i = omega arith

coefficient_first : (t : Monomial) (p : List Monomial) → IsPoly (t ∷ p) → coefficient (t ∷ p) t.atoms ≡ t.coefficient
coefficient_first t p h =
    let x = share_here t.atoms t.atoms t.coefficient (order_same t.atoms) in
    let y = coefficient_before t.atoms p h.1.1.0 in
    omega arith

-- a polynomial has no terms before the first of an equal one
not_before : (t : Monomial) (p q : List Monomial) → IsPoly (t ∷ p) → coefficient (t ∷ p) t.atoms ≡ coefficient q t.atoms → IsBefore t.atoms q → ⊥
not_before t p q h e k =
    let x = coefficient_first t p h in
    let y = coefficient_before t.atoms q k in
    let some : 0 < t.coefficient = h.0 in
    omega arith

monomial_is : (t u : Monomial) → t.coefficient ≡ u.coefficient → t.atoms ≡ u.atoms → t ≡ u
monomial_is t u c a = λ i. record { coefficient = c i; atoms = a i }

pub by_coefficients : (p q : List Monomial) → IsPoly p → IsPoly q → ((a : List ℕ) → coefficient p a ≡ coefficient q a) → p ≡ q
by_coefficients [] [] h k e = refl
by_coefficients [] (u ∷ q) h k e = absurd (not_before u q [] k (sym (e u.atoms)) tt)
by_coefficients (t ∷ p) [] h k e = absurd (not_before t p [] h (e t.atoms) tt)
by_coefficients (t ∷ p) (u ∷ q) h k e = at (order t.atoms u.atoms) refl (λ f. by_coefficients p q h.1.1.1 k.1.1.1 f)
  where
    tails : t.atoms ≡ u.atoms → t.coefficient ≡ u.coefficient → (a : List ℕ) → coefficient p a ≡ coefficient q a
    tails same c a =
        let x = e a in
        let y = ap (λ b. share a b t.coefficient) same in
        let z = ap (λ d. share a u.atoms d) c in
        omega arith

    at : (r : Ordering) → order t.atoms u.atoms ≡ r → (((a : List ℕ) → coefficient p a ≡ coefficient q a) → p ≡ q) → t ∷ p ≡ u ∷ q
    at Less o f = absurd (not_before t p (u ∷ q) h (e t.atoms) (o, before_all t.atoms u.atoms q o k.1.1.0))
    at Greater o f =
        let back = order_back t.atoms u.atoms o in
        absurd (not_before u q (t ∷ p) k (sym (e u.atoms)) (back, before_all u.atoms t.atoms p back h.1.1.0))
    at Equal o f =
        let same = order_equal t.atoms u.atoms o in
        let c : t.coefficient ≡ u.coefficient =
        sym (coefficient_first t p h) ∙ e t.atoms ∙ ap (λ a. coefficient (u ∷ q) a) same ∙ coefficient_first u q k in
        let first = monomial_is t u c same in
        let rest = f (tails same c) in
        λ i. first i ∷ rest i

reduced : (x y : ℕ) → x < 2 ^ 32 → y < 2 ^ 32 → x % 2 ^ 32 ≡ y % 2 ^ 32 → x ≡ y
reduced x y h k e = omega arith

pub by_residues : (p q : List Monomial) → IsPoly p → IsPoly q → ((a : List ℕ) → coefficient p a % 2 ^ 32 ≡ coefficient q a % 2 ^ 32) → p ≡ q
by_residues p q h k e =
    by_coefficients p q h k (λ a. reduced (coefficient p a) (coefficient q a) (coefficient_small p a h) (coefficient_small q a k) (e a))

pub coefficient_joined_is : (ts : List Monomial) (a : List ℕ) → coefficient (joined ts) a ≡ coefficient ts a % 2 ^ 32
coefficient_joined_is ts a =
    let x = coefficient_small (joined ts) a (joined_poly ts) in
    let y = coefficient_joined ts a in
    omega arith

-- a polynomial joins to itself
pub joined_is : (p : List Monomial) → IsPoly p → joined p ≡ p
joined_is p h = by_residues (joined p) p (joined_poly p) h (coefficient_joined p)
