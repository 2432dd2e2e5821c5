-- Multisets in order have ranks in order.
use Rattle.std.proofs.Common.{◌≡◌, ℕ, ◌+◌, ◌*◌, ◌/◌, ◌<◌, ◌≤◌, nat_lt, List, [], ◌∷◌, Bool, true, false, refl, sym, ap, subst, arith, if◌then◌else◌}
use Rattle.std.proofs.lemmas.Bool.{ltb-true, ltb-false}
use Rattle.std.proofs.lemmas.Cmp.{ranked}
use Rattle.std.proofs.lemmas.Nat.{mul-le}
use Rattle.std.specs.Ordering.{nat_cmp, ordering_then}
use Rattle.std.specs.declared.cmp.Ordering.{Ordering}
use Rattle.std.specs.declared.cmp.Ordering.TheVariants.{Less, Equal, Greater}
use Rattle.entail_ring.specs.Inside.{rank}
use Rattle.entail_ring.specs.Polys.{order}
use Rattle.entail_ring.proofs.Order.{order_back, order_equal}

rank_small : (u : ℕ) (a : List ℕ) → rank u a ≤ 255 * u
rank_small u [] = omega arith
rank_small u (x ∷ a) = at (nat_lt x 254) refl (rank_small (u / 256) a)
  where
    at : (z : Bool) → nat_lt x 254 ≡ z → rank (u / 256) a ≤ 255 * (u / 256) → (if z then (x + 1) * u + rank (u / 256) a else 255 * u) ≤ 255 * u
    at true e h =
        let k = ltb-true x 254 e in
        let m = mul-le (x + 1) u 254 u (omega arith) (omega arith) in
        omega arith
    at false e h = omega arith

rank_below : (u x y : ℕ) (a b : List ℕ) → x < y → rank u (x ∷ a) ≤ rank u (y ∷ b)
rank_below u x y a b l = at (nat_lt x 254) refl (nat_lt y 254) refl (rank_small (u / 256) a)
  where
    at : (z : Bool) → nat_lt x 254 ≡ z → (w : Bool) → nat_lt y 254 ≡ w → rank (u / 256) a ≤ 255 * (u / 256)
        → (if z then (x + 1) * u + rank (u / 256) a else 255 * u) ≤ (if w then (y + 1) * u + rank (u / 256) b else 255 * u)
    at true e true f h = let m = mul-le (x + 1 + 1) u (y + 1) u (omega arith) (omega arith) in omega arith
    at true e false f h =
        let k = ltb-true x 254 e in
        let m = mul-le (x + 1) u 254 u (omega arith) (omega arith) in
        omega arith
    at false e true f h = let i = ltb-false x 254 e in let k = ltb-true y 254 f in absurd (omega arith)
    at false e false f h = omega arith

rank_rest : (u x : ℕ) (a b : List ℕ) → rank (u / 256) a ≤ rank (u / 256) b → rank u (x ∷ a) ≤ rank u (x ∷ b)
rank_rest u x a b h = at (nat_lt x 254)
  where
    at : (z : Bool) → (if z then (x + 1) * u + rank (u / 256) a else 255 * u) ≤ (if z then (x + 1) * u + rank (u / 256) b else 255 * u)
    at true = omega arith
    at false = omega arith

rank_rises : (u : ℕ) (a b : List ℕ) → order a b ≡ Less → rank u a ≤ rank u b
rank_rises u [] b h = omega arith
rank_rises u (x ∷ a) [] h = let c : Greater ≡ Less = h in cc
rank_rises u (x ∷ a) (y ∷ b) h = at (nat_cmp x y) refl h (rank_rises (u / 256) a b)
  where
    at : (r : Ordering) → nat_cmp x y ≡ r → ordering_then r (order a b) ≡ Less → (order a b ≡ Less → rank (u / 256) a ≤ rank (u / 256) b)
        → rank u (x ∷ a) ≤ rank u (y ∷ b)
    at Less e i f = let l : x < y = ranked x y Less (sym e) in rank_below u x y a b l
    at Equal e i f = let l : x ≡ y = ranked x y Equal (sym e) in subst (λ z. rank u (x ∷ a) ≤ rank u (z ∷ b)) l (rank_rest u x a b (f i))
    at Greater e i f = let c : Greater ≡ Less = i in cc

pub lower_rank : (u : ℕ) (a b : List ℕ) → rank u a < rank u b → order a b ≡ Less
lower_rank u a b h = at (order a b) refl
  where
    at : (r : Ordering) → order a b ≡ r → r ≡ Less
    at Less e = refl
    at Equal e = let k = ap (rank u) (order_equal a b e) in absurd (omega arith)
    at Greater e = let k = rank_rises u b a (order_back a b e) in absurd (omega arith)

pub higher_rank : (u : ℕ) (a b : List ℕ) → rank u b < rank u a → order a b ≡ Greater
higher_rank u a b h = at (order a b) refl
  where
    at : (r : Ordering) → order a b ≡ r → r ≡ Greater
    at Less e = let k = rank_rises u a b e in absurd (omega arith)
    at Equal e = let k = ap (rank u) (order_equal a b e) in absurd (omega arith)
    at Greater e = refl
