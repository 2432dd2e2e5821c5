-- Sets that are one word each, compared as words.
use Rattle.std.proofs.Common.{◌≡◌, ℕ, ◌^◌, ◌<◌, ◌≤◌, ◌&&◌, ◌||◌, ◌==◌, not, Bool, true, false, length, replicate, refl, sym, ap, ◌∙◌, arith, nat_eq, inl, inr, w64, eqb-true}
use Rattle.std.specs.Prelude.{bit_and}
use Rattle.std.specs.Int.{bit_not}
use Rattle.std.proofs.lemmas.Bool.{and_parts, cases_lt, eqb-false, not-true}
use Rattle.std.proofs.lemmas.Nat.{and_le_l}
use Rattle.std.proofs.lemmas.Nat.Bits.{bit_at-zero}
use Rattle.cov_ast.specs.Tables.{table, has}
use Rattle.cov_ast.proofs.TableLaws.{table_at, table_length, table_same, none_table}
use Rattle.mode_state.specs.Bits.{has_bit}
use Rattle.mode_state.specs.Inside.{meet, cover}
use Rattle.mode_state.proofs.BitLaws.{and_bit, not_bit, some_bit, no_bit}
use Rattle.mode_state.proofs.HeldLaws.{any_from, none_from, all_from, not_all_from}
use Rattle.mode_state.proofs.MaskLaws.{table_past}

-- no number is in a word of 0
pub no_word : (n : ℕ) → table n (has_bit 0) ≡ replicate n false
no_word n = table_same n (has_bit 0) (λ y. false) (λ x lt. ap (λ b. b == 1) (bit_at-zero x)) ∙ sym (none_table n)

-- a set that lacks no number of another
covered : (a b : Bool) → (b && not a) ≡ false → (not b || a) ≡ true
covered true true h = refl
covered true false h = refl
covered false true h = absurd (cc)
covered false false h = refl

-- what a word says of each of its numbers, where it has none past a bound
pub word_at : (n w : ℕ) → ((k : ℕ) → n ≤ k → k < 64 → has_bit w k ≡ false) → (k : ℕ) → k < 64 → has (table n (has_bit w)) k ≡ has_bit w k
word_at n w past k small = elim (cases_lt k n) [
  | inl lt ↦ table_at n (has_bit w) k lt
  | inr le ↦ table_past n (has_bit w) k le ∙ sym (past k le small)
]

module _ (a b n m : ℕ) (fa : a < 2 ^ 64) (fb : b < 2 ^ 64) (small : m ≤ 64) (pa : (k : ℕ) → n ≤ k → k < 64 → has_bit a k ≡ false)
    (pb : (k : ℕ) → m ≤ k → k < 64 → has_bit b k ≡ false) where
  -- a number of the second lies below its bound
  below : (k : ℕ) → k < 64 → has_bit b k ≡ true → k < length (table m (has_bit b))
  below k lt h = elim (cases_lt k m) [
    | inl is ↦ omega (arith, table_length m (has_bit b))
    | inr le ↦ absurd (let no = sym h ∙ pb k le lt in cc)
  ]

  common : (k : ℕ) → k < 64 → (has (table n (has_bit a)) k && has (table m (has_bit b)) k) ≡ has_bit (bit_and a b) k
  common k lt = (λ i. word_at n a pa k lt i && word_at m b pb k lt i) ∙ sym (and_bit a b k)

  missing : (k : ℕ) → k < 64 → has_bit (bit_and b (bit_not w64 a)) k ≡ (has_bit b k && not (has_bit a k))
  missing k lt = and_bit b (bit_not w64 a) k ∙ ap (λ v. has_bit b k && v) (not_bit a k fa lt)

  pub meets_is : not (nat_eq (bit_and a b) 0) ≡ meet (table n (has_bit a)) (table m (has_bit b))
  meets_is = elim (nat_eq (bit_and a b) 0) as (λ v. nat_eq (bit_and a b) 0 ≡ v → not v ≡ meet (table n (has_bit a)) (table m (has_bit b))) [
    | true ↦ λ e.
        sym (none_from (λ k. has (table n (has_bit a)) k && has (table m (has_bit b)) k) 0 (length (table m (has_bit b)))
        (λ k lt. let inside : k < 64 = omega (arith, table_length m (has_bit b)) in common k inside ∙ no_bit (bit_and a b) k (eqb-true (bit_and a b) 0 e)))
    | false ↦ λ e.
        let some = some_bit (bit_and a b) (eqb-false (bit_and a b) 0 e) (omega (arith, and_le_l a b)) in
        let k = some.0 in
        let in_both : (has_bit a k && has_bit b k) ≡ true = sym (and_bit a b k) ∙ some.2 in
        sym (any_from (λ k. has (table n (has_bit a)) k && has (table m (has_bit b)) k) 0 (length (table m (has_bit b))) k (omega arith)
        (let lt = below k some.1 (and_parts (has_bit a k) (has_bit b k) in_both).1 in omega arith)
        (common k some.1 ∙ some.2))
  ] refl

  pub covers_is : nat_eq (bit_and b (bit_not w64 a)) 0 ≡ cover (table n (has_bit a)) (table m (has_bit b))
  covers_is = elim (nat_eq (bit_and b (bit_not w64 a)) 0) as (λ v. nat_eq (bit_and b (bit_not w64 a)) 0 ≡ v → v ≡ cover (table n (has_bit a)) (table m (has_bit b))) [
    | true ↦ λ e.
        sym (all_from (λ k. not (has (table m (has_bit b)) k) || has (table n (has_bit a)) k) 0 (length (table m (has_bit b)))
        (λ k lt. let inside : k < 64 = omega (arith, table_length m (has_bit b)) in
        (λ i. not (word_at m b pb k inside i) || word_at n a pa k inside i)
        ∙ covered (has_bit a k) (has_bit b k) (sym (missing k inside) ∙ no_bit (bit_and b (bit_not w64 a)) k (eqb-true (bit_and b (bit_not w64 a)) 0 e))))
    | false ↦ λ e.
        let some = some_bit (bit_and b (bit_not w64 a)) (eqb-false (bit_and b (bit_not w64 a)) 0 e) (omega (arith, and_le_l b (bit_not w64 a))) in
        let k = some.0 in
        let one : (has_bit b k && not (has_bit a k)) ≡ true = sym (missing k some.1) ∙ some.2 in
        let parts = and_parts (has_bit b k) (not (has_bit a k)) one in
        let there = parts.0 in
        let away = not-true (has_bit a k) parts.1 in
        sym (not_all_from (λ k. not (has (table m (has_bit b)) k) || has (table n (has_bit a)) k) 0 (length (table m (has_bit b))) k (omega arith)
        (let lt = below k some.1 there in omega arith)
        (λ i. not ((word_at m b pb k some.1 ∙ there) i) || (word_at n a pa k some.1 ∙ away) i))
  ] refl
