-- A word as a set of numbers.
use Rattle.std.proofs.Common.{◌≡◌, ◌≢◌, ℕ, zero, suc, ◌+◌, ◌-◌, ◌*◌, ◌/◌, ◌%◌, ◌^◌, ◌<◌, ◌≤◌, ◌&&◌, ◌||◌, ◌==◌, not, true, false, refl, sym, ap, ◌∙◌, arith, min, max, inl, inr, w64, Some, None}
use Rattle.std.specs.Prelude.{bit_or, bit_and}
use Rattle.std.specs.Int.{bit_at, bit_not, trailing_zeros}
use Rattle.std.proofs.Math.Nat.{div-le_self}
use Rattle.std.proofs.lemmas.Bool.{cases_lt}
use Rattle.std.proofs.lemmas.Nat.{shr-shr}
use Rattle.std.proofs.lemmas.Nat.Bits.{bit_at_set_same, bit_at_set_other, bit_at_clear_same, bit_at_clear_other, bit_at-zero, bit_at_and, bit_at_or, bit_at_not, bit_at-lt, bit_at-trailing_zeros, bit_at_above}
use Rattle.mode_state.specs.Bits.{has_bit, IsNext}

-- Put in, and taken out ----------------------------------------------------------------------------------------

module _ (w k : ℕ) (within : k < 64) where
  pub put_in : has_bit (bit_or w (1 * 2 ^ k % 2 ^ 64)) k ≡ true
  put_in = ap (λ b. b == 1) (bit_at_set_same w64 w k within)

  pub put_in_other : (j : ℕ) → j ≢ k → has_bit (bit_or w (1 * 2 ^ k % 2 ^ 64)) j ≡ has_bit w j
  put_in_other j ne = ap (λ b. b == 1) (bit_at_set_other w64 w k within j ne)

  pub taken_out : has_bit (bit_and w (bit_not w64 (1 * 2 ^ k % 2 ^ 64))) k ≡ false
  taken_out = ap (λ b. b == 1) (bit_at_clear_same w64 w k within)

  pub taken_out_other : (j : ℕ) → j < 64 → j ≢ k → has_bit (bit_and w (bit_not w64 (1 * 2 ^ k % 2 ^ 64))) j ≡ has_bit w j
  taken_out_other j small ne = ap (λ b. b == 1) (bit_at_clear_other w64 w k within j small ne)

-- Of two words, and of one turned ------------------------------------------------------------------------------

both : (x y : ℕ) → x < 2 → y < 2 → (min x y == 1) ≡ ((x == 1) && (y == 1))
both zero zero hx hy = refl
both zero (suc zero) hx hy = refl
both (suc zero) zero hx hy = refl
both (suc zero) (suc zero) hx hy = refl
both zero (suc (suc y)) hx hy = absurd (omega arith)
both (suc zero) (suc (suc y)) hx hy = absurd (omega arith)
both (suc (suc x)) y hx hy = absurd (omega arith)

pub and_bit : (a b k : ℕ) → has_bit (bit_and a b) k ≡ (has_bit a k && has_bit b k)
and_bit a b k = ap (λ n. n == 1) (bit_at_and a b k) ∙ both (bit_at a k) (bit_at b k) (bit_at-lt a k) (bit_at-lt b k)

either : (x y : ℕ) → x < 2 → y < 2 → (max x y == 1) ≡ ((x == 1) || (y == 1))
either zero zero hx hy = refl
either zero (suc zero) hx hy = refl
either (suc zero) zero hx hy = refl
either (suc zero) (suc zero) hx hy = refl
either zero (suc (suc y)) hx hy = absurd (omega arith)
either (suc zero) (suc (suc y)) hx hy = absurd (omega arith)
either (suc (suc x)) y hx hy = absurd (omega arith)

pub or_bit : (a b k : ℕ) → has_bit (bit_or a b) k ≡ (has_bit a k || has_bit b k)
or_bit a b k = ap (λ n. n == 1) (bit_at_or a b k) ∙ either (bit_at a k) (bit_at b k) (bit_at-lt a k) (bit_at-lt b k)

lacks : (x : ℕ) → x < 2 → (1 - x == 1) ≡ not (x == 1)
lacks zero h = refl
lacks (suc zero) h = refl
lacks (suc (suc x)) h = absurd (omega arith)

pub not_bit : (a k : ℕ) → a < 2 ^ 64 → k < 64 → has_bit (bit_not w64 a) k ≡ not (has_bit a k)
not_bit a k fits small = ap (λ n. n == 1) (bit_at_not w64 a k fits small) ∙ lacks (bit_at a k) (bit_at-lt a k)

-- a word that isn't 0 has a number
pub some_bit : (w : ℕ) → (w ≡ 0 → ⊥) → w < 2 ^ 64 → (k : ℕ) × (k < 64) × (has_bit w k ≡ true)
some_bit w ne fits =
    let lowest = bit_at-trailing_zeros w64 w (omega arith) fits in
    (trailing_zeros w64 w, lowest.0, ap (λ n. n == 1) lowest.1)

pub no_bit : (w k : ℕ) → w ≡ 0 → has_bit w k ≡ false
no_bit w k e = ap (λ v. has_bit v k) e ∙ ap (λ n. n == 1) (bit_at-zero k)

-- The first number from one on ---------------------------------------------------------------------------------

module _ (w from : ℕ) (fits : w < 2 ^ 64) where
  shifted : (k : ℕ) → from ≤ k → has_bit w k ≡ has_bit (w / 2 ^ from) (k - from)
  shifted k le =
      let e : k ≡ from + (k - from) = omega arith in
      ap (has_bit w) e ∙ sym (ap (λ x. x % 2 == 1) (shr-shr w from (k - from)))

  pub none_after : w / 2 ^ from ≡ 0 → IsNext (has_bit w) from 64 None
  none_after e k le lt = shifted k le ∙ no_bit (w / 2 ^ from) (k - from) e

  pub some_after : w / 2 ^ from ≢ 0 → IsNext (has_bit w) from 64 (Some (from + trailing_zeros w64 (w / 2 ^ from)))
  some_after ne =
      let r : ℕ = w / 2 ^ from in
      let low = bit_at-trailing_zeros w64 r (omega arith) (omega (arith, div-le_self w (2 ^ from))) in
      let x : ℕ = from + trailing_zeros w64 r in
      let back : x - from ≡ trailing_zeros w64 r = omega arith in
      let here : has_bit w x ≡ true = shifted x (omega arith) ∙ ap (has_bit r) back ∙ ap (λ n. n == 1) low.1 in (
        elim (cases_lt x 64) [
          | inl lt ↦ lt
          | inr le ↦ absurd (let no : has_bit w x ≡ false = ap (λ n. n == 1) (bit_at_above w 64 x fits le) in let bad = sym here ∙ no in cc)
        ],
        omega arith,
        here,
        λ k le lt. shifted k le ∙ ap (λ n. n == 1) (low.2 (k - from) (omega arith)),
      )
