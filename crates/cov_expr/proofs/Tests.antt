-- Truth values, and tests of all numbers of a list or a range, beyond std's.
use Rattle.std.proofs.Common.{◌≡◌, ℕ, zero, suc, ◌+◌, ◌<◌, ◌≤◌, List, [], ◌∷◌, Bool, true, false, ◌&&◌, ◌||◌, true≢false, refl, sym, subst, arith, inl, inr}
use Rattle.std.specs.List.{list_all, list_any, range_with_len}
use Rattle.std.proofs.lemmas.Bool.{and_parts, cases_lt, or_cases, or_left, or_right}

pub left_true : (a b : Bool) → (a && b) ≡ true → a ≡ true
left_true a b h = (and_parts a b h).0

pub right_true : (a b : Bool) → (a && b) ≡ true → b ≡ true
right_true a b h = (and_parts a b h).1

pub or_regrouped : (a b c : Bool) → (a || (b || c)) ≡ ((a || b) || c)
or_regrouped true b c = refl
or_regrouped false b c = refl

-- a number of a range that passes a test
pub passing : (f : ℕ → Bool) (a n : ℕ) → list_any f (range_with_len a n) ≡ true → (l : ℕ) × (f l ≡ true)
passing f a zero h = absurd (true≢false (sym h))
passing f a (suc n) h = elim (or_cases (f a) (list_any f (range_with_len (a + 1) n)) h) [ inl e ↦ (a, e) | inr e ↦ passing f (a + 1) n e ]

pub each_below : (f : ℕ → Bool) (a n l : ℕ) → a ≤ l → l < a + n → list_all f (range_with_len a n) ≡ true → f l ≡ true
each_below f a zero l from to h = absurd (omega arith)
each_below f a (suc n) l from to h =
    let parts = and_parts (f a) (list_all f (range_with_len (a + 1) n)) h in
    elim (cases_lt a l) [
      | inl lt ↦ each_below f (a + 1) n l (omega arith) (omega arith) parts.1
      | inr ge ↦ let e : a ≡ l = omega arith in subst (λ k. f k ≡ true) e parts.0
    ]

pub any_more : (f g : ℕ → Bool) (xs : List ℕ) → ((k : ℕ) → f k ≡ true → g k ≡ true) → list_any f xs ≡ true → list_any g xs ≡ true
any_more f g [] h e = e
any_more f g (x ∷ xs) h e = elim (or_cases (f x) (list_any f xs) e) [
  | inl first ↦ or_left (g x) (list_any g xs) (h x first)
  | inr rest ↦ or_right (g x) (list_any g xs) (any_more f g xs h rest)
]
