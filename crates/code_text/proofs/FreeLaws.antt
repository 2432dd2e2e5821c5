-- No field has a blank or a line feed.
use Rattle.std.proofs.Common.{◌≡◌, ℕ, ◌+◌, ◌<◌, ◌≤◌, ◌^◌, ◌==◌, ◌||◌, nat_le, List, [], ◌∷◌, arith, decimal, true, false, inl, inr}
use Rattle.std.proofs.lemmas.Bool.{and_parts, or_cases, leb-true, eqb-true}
use Rattle.std.proofs.lemmas.Fmt.{digits_decimal}
use Rattle.std.proofs.lemmas.Str.Parse.{numerals_by_value}
use Rattle.std.specs.List.{list_all}
use Rattle.cov_expr.specs.Bytes.{is_digit, is_lower, is_word}
use Rattle.cov_expr.specs.Names.{IsName}
use Rattle.code_text.specs.Listing.{register}
use Rattle.code_text.proofs.BackLaws.{digits_tell}
use Rattle.code_text.proofs.PiecesBack.{IsFree}

digit_low : (b : ℕ) → is_digit b ≡ true → 48 ≤ b
digit_low b h = leb-true 48 b (and_parts (nat_le 48 b) (nat_le b 57) h).0

lower_low : (b : ℕ) → is_lower b ≡ true → 48 ≤ b
lower_low b h = let k = leb-true 97 b (and_parts (nat_le 97 b) (nat_le b 122) h).0 in omega (arith, k)

word_low : (b : ℕ) → is_word b ≡ true → 48 ≤ b
word_low b h = elim (or_cases (is_lower b || is_digit b) (b == 95) h) [
  | inl g ↦ (elim (or_cases (is_lower b) (is_digit b) g) [ inl l ↦ lower_low b l | inr d ↦ digit_low b d ])
  | inr e ↦ (let k = eqb-true b 95 e in omega (arith, k))
]

module _ (at : ℕ) (low : at < 48) where
  other : (b : ℕ) → 48 ≤ b → (b == at) ≡ false
  other b h = grind arith

  free_digits : (f : List ℕ) → list_all is_digit f ≡ true → IsFree at f
  free_digits [] h = tt
  free_digits (b ∷ f) h = let p = and_parts (is_digit b) (list_all is_digit f) h in (other b (digit_low b p.0), free_digits f p.1)

  pub free_words : (f : List ℕ) → list_all is_word f ≡ true → IsFree at f
  free_words [] h = tt
  free_words (b ∷ f) h = let p = and_parts (is_word b) (list_all is_word f) h in (other b (word_low b p.0), free_words f p.1)

  pub free_name : (n : List ℕ) → IsName n → IsFree at n
  free_name [] h = tt
  free_name (b ∷ f) h = let p = and_parts (is_lower b) (list_all is_word f) h.word in (other b (lower_low b p.0), free_words f p.1)

  pub free_decimal : (n : ℕ) → n < 2 ^ 64 → IsFree at (decimal n)
  free_decimal n h = free_digits (decimal n) (digits_decimal (numerals_by_value (λ ds. list_all is_digit ds ≡ true) digits_tell) n h)

  pub free_register : (r : ℕ) → IsFree at (register r)
  free_register r = (other 114 (omega arith), (other (48 + r) (omega arith), tt))
