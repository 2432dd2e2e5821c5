-- The table of the bytes of words says what they are.
use Rattle.std.proofs.Common.{◌≡◌, ℕ, ◌<◌, nat_eq, slice_index, Bool, true, false, not, if◌then◌else◌, refl, sym}
use Rattle.cov_expr.specs.Bytes.{is_word}
use Rattle.cov_expr.specs.declared.byte.TheConstants.{WORD_BYTES}
use Rattle.cov_expr.proofs.Spellings.{all_below, is_below}

abbrev is_right : ℕ → Bool
is_right b = if is_word b then nat_eq (slice_index WORD_BYTES b) 1 else not (nat_eq (slice_index WORD_BYTES b) 1)

all_right : all_below is_right 256 ≡ true
all_right = refl

pub word_byte : (b : ℕ) → b < 256 → nat_eq (slice_index WORD_BYTES b) 1 ≡ is_word b
word_byte b h = by (is_word b) (nat_eq (slice_index WORD_BYTES b) 1) (is_below is_right 256 b all_right h)
  where
    by : (word one : Bool) → (if word then one else not one) ≡ true → one ≡ word
    by true one e = e
    by false true e = sym e
    by false false e = refl
