-- What the steps that join terms make of them: their coefficients are reduced, they are sorted, and each is added behind the others.
use Rattle.std.proofs.Common.{◌≡◌, ℕ, suc, ◌+◌, ◌-◌, ◌*◌, ◌%◌, ◌^◌, ◌<◌, ◌≤◌, ◌==◌, List, [], ◌∷◌, ◌++◌, length, map, take, get_or, Bool, true, false, not, Some, refl, sym, ◌∙◌, ap, subst, arith, if◌then◌else◌}
use Rattle.std.proofs.lemmas.Bool.{eq-eqb, eqb-true}
use Rattle.std.proofs.lemmas.Cmp.{nat_list_cmp_total}
use Rattle.std.proofs.lemmas.List.{get_or_default, get_or-map, get_or-take, length-map, length-take-le, take_all, take_more}
use Rattle.std.proofs.lemmas.List.Recursion.{is_sum_by}
use Rattle.std.proofs.lemmas.List.Sorted.{ranks_by, sorted_far, sum_by-IsPermutation}
use Rattle.std.proofs.lemmas.Option.{slice_get_within, get_or_from_slice_get}
use Rattle.std.proofs.lemmas.Slice.Eq.{bytes_eq-Decides}
use Rattle.std.specs.List.{slice_get}
use Rattle.std.specs.List.Sorted.{IsPermutation, IsSortedBy}
use Rattle.std.specs.Ordering.{is_lt}
use Rattle.std.specs.Str.{bytes_eq}
use Rattle.std.specs.declared.cmp.Ordering.{Ordering}
use Rattle.std.specs.declared.cmp.Ordering.TheVariants.{Less, Equal, Greater}
use Rattle.entail_ring.specs.declared.monomials.Monomial.{Monomial}
use Rattle.entail_ring.specs.Inside.{reduced, comes_before, AreUpTo, AreBefore}
use Rattle.entail_ring.specs.Polys.{term_of, order, put, placed, add, joined, IsBefore, IsPoly}
use Rattle.entail_ring.specs.Values.{weighted}
use Rattle.entail_ring.proofs.Joining.{before_put, put_poly, joined_is}
use Rattle.entail_ring.proofs.Numbering.{by_weights}
use Rattle.entail_ring.proofs.Order.{order_back, order_equal, order_trans}
use Rattle.entail_ring.proofs.Values.{factor_reduced, inside, put_value, joined_value, append_value}

-- Reduced terms ------------------------------------------------------------------------------------------------

reduced_weighted : (w : List ℕ → ℕ) (ts : List Monomial) → weighted w (map reduced ts) % 2 ^ 32 ≡ weighted w ts % 2 ^ 32
reduced_weighted w [] = refl
reduced_weighted w (t ∷ ts) =
    factor_reduced t.coefficient (w t.atoms) (weighted w (map reduced ts))
    ∙ inside (t.coefficient * w t.atoms) (weighted w (map reduced ts)) (weighted w ts) (reduced_weighted w ts)

pub joined_reduced : (ts : List Monomial) → joined (map reduced ts) ≡ joined ts
joined_reduced ts = by_weights (map reduced ts) ts (λ w. reduced_weighted w ts)

-- Sorted terms -------------------------------------------------------------------------------------------------

permuted_weighted : (w : List ℕ → ℕ) (ts us : List Monomial) → IsPermutation ts us → weighted w us ≡ weighted w ts
permuted_weighted w ts us h =
    let f : Monomial → ℕ = λ t. t.coefficient * w t.atoms in
    is_sum_by (weighted w) f refl (λ t p. refl) us ∙ sum_by-IsPermutation f ts us h ∙ sym (is_sum_by (weighted w) f refl (λ t p. refl) ts)

-- the order of the terms doesn't matter
pub joined_permuted : (ts us : List Monomial) → IsPermutation ts us → joined us ≡ joined ts
joined_permuted ts us h = by_weights us ts (λ w. ap (λ n. n % 2 ^ 32) (permuted_weighted w ts us h))

up_to_each : (a : List ℕ) (p : List Monomial) → ((k : ℕ) (d : Monomial) → k < length p → is_lt (order a (get_or p k d).atoms) ≡ false) → AreUpTo a p
up_to_each a [] h = tt
up_to_each a (t ∷ p) h = (h 0 t (omega arith), up_to_each a p (λ k d i. h (suc k) d (omega arith)))

-- none of the terms before one is behind it
pub up_to_sorted : (ts : List Monomial) → IsSortedBy comes_before ts → (i : ℕ) (d : Monomial) → i < length ts → AreUpTo (get_or ts i d).atoms (take i ts)
up_to_sorted ts h i d k =
    up_to_each (get_or ts i d).atoms (take i ts)
    (λ j e l.
    let long : length (take i ts) ≡ i = length-take-le i ts (omega arith) in
    let below : j < i = omega arith in
    ap (λ t. is_lt (order (get_or ts i d).atoms t.atoms)) (get_or-take i ts j e below)
    ∙ ap (λ t. is_lt (order (get_or ts i d).atoms t.atoms)) (get_or_default ts j e d (omega arith))
    ∙ sorted_far comes_before (ranks_by nat_list_cmp_total (λ (t : Monomial). t.atoms)) ts h j i d (omega arith) k)

-- One term more ------------------------------------------------------------------------------------------------

up_to_put : (a : List ℕ) (c : ℕ) (b : List ℕ) (p : List Monomial) → is_lt (order a b) ≡ false → AreUpTo a p → AreUpTo a (put c b p)
up_to_put a c b p h k = at (c % 2 ^ 32 == 0)
  where
    at : (z : Bool) → AreUpTo a (if z then p else term_of (c % 2 ^ 32) b ∷ p)
    at true = k
    at false = (h, k)

up_to_placed : (a : List ℕ) (r : Ordering) (t u : Monomial) (p more : List Monomial) → is_lt (order a t.atoms) ≡ false → AreUpTo a (u ∷ p) → AreUpTo a more
    → AreUpTo a (placed r t u p more)
up_to_placed a Less t u p more h k i = up_to_put a t.coefficient t.atoms (u ∷ p) h k
up_to_placed a Equal t u p more h k i = up_to_put a (t.coefficient + u.coefficient) t.atoms p h k.1
up_to_placed a Greater t u p more h k i = (k.0, i)

up_to_add : (a : List ℕ) (t : Monomial) (p : List Monomial) → is_lt (order a t.atoms) ≡ false → AreUpTo a p → AreUpTo a (add t p)
up_to_add a t [] h k = up_to_put a t.coefficient t.atoms [] h tt
up_to_add a t (u ∷ p) h k = up_to_placed a (order t.atoms u.atoms) t u p (add t p) h k (up_to_add a t p h k.1)

pub up_to_joined : (a : List ℕ) (ts : List Monomial) → AreUpTo a ts → AreUpTo a (joined ts)
up_to_joined a [] h = tt
up_to_joined a (t ∷ ts) h = up_to_add a t (joined ts) h.0 (up_to_joined a ts h.1)

-- terms that are joined, and one more
pub joined_more : (ts : List Monomial) (t : Monomial) → joined (joined ts ++ t ∷ []) ≡ joined (ts ++ t ∷ [])
joined_more ts t =
    by_weights (joined ts ++ t ∷ []) (ts ++ t ∷ [])
    (λ w.
    let x = append_value w (joined ts) (t ∷ []) in
    let y = append_value w ts (t ∷ []) in
    let z = joined_value w ts in
    omega arith)

before_append : (a : List ℕ) (p q : List Monomial) → IsBefore a p → IsBefore a q → IsBefore a (p ++ q)
before_append a [] q h k = k
before_append a (t ∷ p) q h k = (h.0, before_append a p q h.1 k)

put_last_poly : (c : ℕ) (a : List ℕ) (p : List Monomial) → IsPoly p → AreBefore a p → IsPoly (p ++ put c a [])
put_last_poly c a [] h k = put_poly c a [] tt tt
put_last_poly c a (t ∷ p) h k =
    (h.0, (h.1.0, (before_append t.atoms p (put c a []) h.1.1.0 (before_put t.atoms c a [] k.0 tt), put_last_poly c a p h.1.1.1 k.1)))

-- a term is added to the last one, of which the coefficient was taken
put_behind : (p rest : List Monomial) (r : ℕ) (t : Monomial) → p ≡ rest ++ put r t.atoms [] → IsPoly rest → AreBefore t.atoms rest
    → rest ++ put (r + t.coefficient) t.atoms [] ≡ joined (p ++ t ∷ [])
put_behind p rest r t e h k =
    sym (joined_is (rest ++ put (r + t.coefficient) t.atoms []) (put_last_poly (r + t.coefficient) t.atoms rest h k))
    ∙ by_weights (rest ++ put (r + t.coefficient) t.atoms []) ((rest ++ put r t.atoms []) ++ t ∷ [])
    (λ w.
    let x = append_value w rest (put (r + t.coefficient) t.atoms []) in
    let y = append_value w rest (put r t.atoms []) in
    let z = append_value w (rest ++ put r t.atoms []) (t ∷ []) in
    let m = put_value w (r + t.coefficient) t.atoms [] in
    let n = put_value w r t.atoms [] in
    omega arith)
    ∙ ap (λ q. joined (q ++ t ∷ [])) (sym e)

pub put_last : (p rest : List Monomial) (r : ℕ) (t : Monomial) (a : List ℕ) → a ≡ t.atoms → p ≡ rest ++ put r a [] → IsPoly rest → AreBefore a rest
    → rest ++ put (r + t.coefficient) t.atoms [] ≡ joined (p ++ t ∷ [])
put_last p rest r t a same e h k =
    put_behind p rest r t (e ∙ ap (λ b. rest ++ put r b []) same) h (subst (λ b. AreBefore b rest) same k)

pub put_some : (c : ℕ) (a : List ℕ) (p : List Monomial) → (c % 2 ^ 32 ≡ 0 → ⊥) → put c a p ≡ term_of (c % 2 ^ 32) a ∷ p
put_some c a p h = at (c % 2 ^ 32 == 0) refl
  where
    at : (z : Bool) → (c % 2 ^ 32 == 0) ≡ z → (if z then p else term_of (c % 2 ^ 32) a ∷ p) ≡ term_of (c % 2 ^ 32) a ∷ p
    at true e = absurd (h (eqb-true (c % 2 ^ 32) 0 e))
    at false e = refl

pub put_none : (c : ℕ) (a : List ℕ) (p : List Monomial) → c % 2 ^ 32 ≡ 0 → put c a p ≡ p
put_none c a p h = ap (λ z. if z then p else term_of (c % 2 ^ 32) a ∷ p) (eq-eqb (c % 2 ^ 32) 0 h)

-- The last term ------------------------------------------------------------------------------------------------

poly_last : (p : List Monomial) (t : Monomial) → IsPoly (p ++ t ∷ []) → IsPoly p × AreBefore t.atoms p × IsPoly (t ∷ [])
poly_last [] t h = (tt, tt, h)
poly_last (u ∷ p) t h =
    let rest = poly_last p t h.1.1.1 in
    ((h.0, (h.1.0, (first_before u.atoms p t h.1.1.0, rest.0))), (last_before u.atoms p t h.1.1.0, rest.1), rest.2)
  where
    first_before : (a : List ℕ) (q : List Monomial) (v : Monomial) → IsBefore a (q ++ v ∷ []) → IsBefore a q
    first_before a [] v k = tt
    first_before a (x ∷ q) v k = (k.0, first_before a q v k.1)

    last_before : (a : List ℕ) (q : List Monomial) (v : Monomial) → IsBefore a (q ++ v ∷ []) → order a v.atoms ≡ Less
    last_before a [] v k = k.0
    last_before a (x ∷ q) v k = last_before a q v k.1

up_to_last : (a : List ℕ) (p : List Monomial) (t : Monomial) → AreUpTo a (p ++ t ∷ []) → is_lt (order a t.atoms) ≡ false
up_to_last a [] t h = h.0
up_to_last a (u ∷ p) t h = up_to_last a p t h.1

all_before : (a : List ℕ) (p : List Monomial) (t : Monomial) → AreBefore t.atoms p → order t.atoms a ≡ Less → AreBefore a (p ++ t ∷ [])
all_before a [] t h k = (k, tt)
all_before a (u ∷ p) t h k = (order_trans u.atoms t.atoms a h.0 k, all_before a p t h.1 k)

-- the last term has other atoms than these
pub others_before : (a : List ℕ) (all p : List Monomial) (t : Monomial) → all ≡ p ++ t ∷ [] → IsPoly all → AreUpTo a all → (t.atoms ≡ a → ⊥) → AreBefore a all
others_before a all p t e h k other =
    subst (AreBefore a) (sym e) (all_before a p t (poly_last p t (subst IsPoly e h)).1 (at (order a t.atoms) refl (up_to_last a p t (subst (AreUpTo a) e k))))
  where
    at : (r : Ordering) → order a t.atoms ≡ r → is_lt (order a t.atoms) ≡ false → order t.atoms a ≡ Less
    at Less o i = let c : true ≡ false = sym (ap is_lt o) ∙ i in cc
    at Equal o i = absurd (other (sym (order_equal a t.atoms o)))
    at Greater o i = order_back a t.atoms o

put_itself : (t : Monomial) → 0 < t.coefficient → t.coefficient < 2 ^ 32 → put t.coefficient t.atoms [] ≡ t ∷ []
put_itself t h k = at (t.coefficient % 2 ^ 32 == 0) refl
  where
    at : (z : Bool) → (t.coefficient % 2 ^ 32 == 0) ≡ z → (if z then [] else term_of (t.coefficient % 2 ^ 32) t.atoms ∷ []) ≡ t ∷ []
    at true e = let n = eqb-true (t.coefficient % 2 ^ 32) 0 e in absurd (omega arith)
    at false e = let n : t.coefficient % 2 ^ 32 ≡ t.coefficient = omega arith in ap (λ c. term_of c t.atoms ∷ []) n

-- the last term has these atoms
pub record Taken (a : List ℕ) (all p : List Monomial) (c : ℕ) : Type 0 where
  pub rest : all ≡ p ++ put c a []
  pub poly : IsPoly p
  pub before : AreBefore a p

pub last_taken : (all p : List Monomial) (t : Monomial) → all ≡ p ++ t ∷ [] → IsPoly all → Taken t.atoms all p t.coefficient
last_taken all p t e h =
    let parts = poly_last p t (subst IsPoly e h) in
    record { rest = e ∙ ap (λ q. p ++ q) (sym (put_itself t parts.2.0 parts.2.1.0)); poly = parts.0; before = parts.1 }

last_at : (all : List Monomial) (t : Monomial) → Some t ≡ slice_get all (length all - 1) → all ≡ take (length all - 1) all ++ t ∷ []
last_at all t e =
    let within = slice_get_within all (length all - 1) t (sym e) in
    let found = get_or_from_slice_get all (length all - 1) t t (sym e) in
    sym (take_all (length all - 1 + 1) all (omega arith)) ∙ take_more all (length all - 1) t within ∙ ap (λ u. take (length all - 1) all ++ u ∷ []) found

other_atoms : (a b : List ℕ) → true ≡ not (bytes_eq b a) → b ≡ a → ⊥
other_atoms a b n same = let c : true ≡ false = n ∙ ap not ((bytes_eq-Decides b a).1 same) in cc

same_atoms : (a b : List ℕ) → false ≡ not (bytes_eq b a) → b ≡ a
same_atoms a b n = (bytes_eq-Decides b a).0 (at (bytes_eq b a) n)
  where
    at : (z : Bool) → false ≡ not z → z ≡ true
    at true e = refl
    at false e = let c : false ≡ true = e in cc

-- the last term stays, since it has other atoms
pub last_kept : (a b : List ℕ) (all : List Monomial) (t : Monomial) → Some t ≡ slice_get all (length all - 1) → b ≡ t.atoms → true ≡ not (bytes_eq b a)
    → IsPoly all → AreUpTo a all → AreBefore a all
last_kept a b all t e f n h k =
    others_before a all (take (length all - 1) all) t (last_at all t e) h k (λ same. other_atoms a b n (f ∙ same))

-- the last term is taken off, since it has these atoms
pub last_gone : (a b : List ℕ) (all rest : List Monomial) (t : Monomial) → Some t ≡ slice_get all (length all - 1) → b ≡ t.atoms → false ≡ not (bytes_eq b a)
    → rest ≡ take (length all - 1) all → IsPoly all → Taken a all rest t.coefficient
last_gone a b all rest t e f n r h =
    subst (λ x. Taken x all rest t.coefficient) (sym f ∙ same_atoms a b n)
    (subst (λ p. Taken t.atoms all p t.coefficient) (sym r) (last_taken all (take (length all - 1) all) t (last_at all t e) h))

-- Terms by what stands for them ----------------------------------------------------------------------------------

module _ {X : Type 0} (f : X → Monomial) where
  pub sorted_map : (rs : List X) → IsSortedBy (λ t u. comes_before (f t) (f u)) rs → IsSortedBy comes_before (map f rs)
  sorted_map [] h = λ k d l m. absurd (omega arith)
  sorted_map (x ∷ rs) h =
      λ k d l m.
      let long : length (map f (x ∷ rs)) ≡ length (x ∷ rs) = length-map (x ∷ rs) f in
      ap (λ t. comes_before t (get_or (map f (x ∷ rs)) k d)) (get_or-map f (x ∷ rs) (k + 1) x d (omega arith))
      ∙ ap (λ u. comes_before (f (get_or (x ∷ rs) (k + 1) x)) u) (get_or-map f (x ∷ rs) k x d (omega arith))
      ∙ h k x l (omega arith)

  map_at : (rs : List X) (i : ℕ) (r : X) → i < length rs → r ≡ get_or rs i r → get_or (map f rs) i (f r) ≡ f r
  map_at rs i r h e = get_or-map f rs i r (f r) h ∙ sym (ap f e)

  -- none of what is made of the terms so far is behind the next one
  pub next_up_to : (rs : List X) (i : ℕ) (r : X) (made : List Monomial) → IsSortedBy comes_before (map f rs) → i < length rs → r ≡ get_or rs i r
      → made ≡ joined (take i (map f rs)) → AreUpTo (f r).atoms made
  next_up_to rs i r made h k e m =
      let long : length (map f rs) ≡ length rs = length-map rs f in
      let before = up_to_sorted (map f rs) h i (f r) (omega arith) in
      let here = subst (λ t. AreUpTo t.atoms (take i (map f rs))) (map_at rs i r k e) before in
      subst (AreUpTo (f r).atoms) (sym m) (up_to_joined (f r).atoms (take i (map f rs)) here)

  -- the next one is added
  pub next_made : (rs : List X) (i : ℕ) (r : X) (made new : List Monomial) → i < length rs → r ≡ get_or rs i r → made ≡ joined (take i (map f rs))
      → new ≡ joined (made ++ f r ∷ []) → new ≡ joined (take (i + 1) (map f rs))
  next_made rs i r made new k e m n =
      let long : length (map f rs) ≡ length rs = length-map rs f in
      n
      ∙ ap (λ p. joined (p ++ f r ∷ [])) m
      ∙ joined_more (take i (map f rs)) (f r)
      ∙ ap (λ t. joined (take i (map f rs) ++ t ∷ [])) (sym (map_at rs i r k e))
      ∙ ap joined (sym (take_more (map f rs) i (f r) (omega arith)))

  -- all are added
  pub all_made : (ts : List Monomial) (rs : List X) (i : ℕ) (made : List Monomial) → IsPermutation ts (map f rs) → length rs ≤ i
      → made ≡ joined (take i (map f rs)) → made ≡ joined ts
  all_made ts rs i made p h m =
      let long : length (map f rs) ≡ length rs = length-map rs f in
      m ∙ ap joined (take_all i (map f rs) (omega arith)) ∙ joined_permuted ts (map f rs) p
