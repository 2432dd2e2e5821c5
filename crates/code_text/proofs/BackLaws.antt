-- What is spelled is read back: fields and instructions.
use Rattle.std.proofs.Common.{◌≡◌, ℕ, ◌+◌, ◌-◌, ◌<◌, ◌≤◌, ◌^◌, ◌==◌, ◌&&◌, ◌||◌, not, nat_le, nat_lt, zero, suc, List, [], ◌∷◌, length, get_or, refl, ap, ◌∙◌, arith, decimal, Bool, true, if◌then◌else◌, Option, Some, None}
use Rattle.std.proofs.lemmas.Bool.{and_parts, leb-true, lt-ltb}
use Rattle.std.proofs.lemmas.Fmt.{digits_value-decimal, digits_decimal, decimal_digit, decimal_nonempty, first_decimal}
use Rattle.std.proofs.lemmas.Str.Parse.{numerals_by_value, IsDigitsTest}
use Rattle.std.specs.List.{list_all}
use Rattle.std.specs.Str.Parse.{digits_value}
use Rattle.cov_expr.specs.Bytes.{is_digit}
use Rattle.cov_expr.specs.Names.{IsName}
use Rattle.cov_expr.specs.declared.expr.Op.{Op}
use Rattle.cov_expr.specs.declared.expr.Op.TheVariants.{Add, Sub, Mul, And, Or, Xor, Eq, Ne, Lt, Le, Both, Either}
use Rattle.code_text.specs.Listing.{register, sign}
use Rattle.code_text.specs.Inside.ListingReading.{name_of, is_number, number_of, digit_below, register_of, weight_of, op_of}

le_true : (a b : ℕ) → a ≤ b → nat_le a b ≡ true
le_true a b h = grind arith

pub both_true : (x y : Bool) → x ≡ true → y ≡ true → (x && y) ≡ true
both_true x y g h = ap (λ a. a && y) g ∙ h

pub taken : {A : Type 0} (b : Bool) (x y : Option A) → b ≡ true → (if b then x else y) ≡ x
taken b x y h = ap (λ c. if c then x else y) h

pub digits_tell : IsDigitsTest (λ ds. list_all is_digit ds ≡ true)
digits_tell = record {
  empty = refl;
  parts = λ c cs h. let p = and_parts (is_digit c) (list_all is_digit cs) h in let q = and_parts (nat_le 48 c) (nat_le c 57) p.0 in ((leb-true 48 c q.0, leb-true c 57 q.1), p.1);
  more = λ c cs range h. both_true (is_digit c) (list_all is_digit cs) (both_true (nat_le 48 c) (nat_le c 57) (le_true 48 c range.0) (le_true c 57 range.1)) h;
}

no_leading : (n : ℕ) → n < 2 ^ 64 → (not (get_or (decimal n) 0 0 == 48) || length (decimal n) == 1) ≡ true
no_leading zero h = let e : decimal 0 ≡ 48 ∷ [] = decimal_digit 0 (omega arith) in ap (λ d. not (get_or d 0 0 == 48) || length d == 1) e
no_leading (suc n) h = by (get_or (decimal (suc n)) 0 0) (first_decimal (suc n) (omega arith) h)
  where
    by : (b : ℕ) → 48 < b → (not (b == 48) || length (decimal (suc n)) == 1) ≡ true
    by b more = grind arith

pub number_back : (n : ℕ) → n < 4294967296 → number_of (decimal n) ≡ Some n
number_back n h =
    let big : n < 2 ^ 64 = omega (arith, h) in
    let own = numerals_by_value (λ ds. list_all is_digit ds ≡ true) digits_tell in
    let v : digits_value 10 (decimal n) ≡ n = digits_value-decimal own n big in
    taken (is_number (decimal n) && nat_le (digits_value 10 (decimal n)) 4294967295) (Some (digits_value 10 (decimal n))) None
    (both_true (is_number (decimal n)) (nat_le (digits_value 10 (decimal n)) 4294967295)
    (both_true (list_all is_digit (decimal n) && nat_lt 0 (length (decimal n))) (not (get_or (decimal n) 0 0 == 48) || length (decimal n) == 1)
    (both_true (list_all is_digit (decimal n)) (nat_lt 0 (length (decimal n))) (digits_decimal own n big) (lt-ltb 0 (length (decimal n)) (decimal_nonempty n big)))
    (no_leading n big))
    (le_true (digits_value 10 (decimal n)) 4294967295 (omega (arith, v, h))))
    ∙ ap Some v

digit_back : (n d : ℕ) → d < n → digit_below n (48 + d) ≡ true
digit_back n d h = both_true (nat_le 48 (48 + d)) (nat_lt (48 + d) (48 + n)) (le_true 48 (48 + d) (omega arith)) (lt-ltb (48 + d) (48 + n) (omega (arith, h)))

minus : (d : ℕ) → (48 + d) - 48 ≡ d
minus d = omega arith

pub register_back : (r : ℕ) → r < 8 → register_of (register r) ≡ Some r
register_back r h = taken (digit_below 8 (48 + r)) (Some ((48 + r) - 48)) None (digit_back 8 r h) ∙ ap Some (minus r)

pub weight_back : (w : ℕ) → w < 3 → weight_of (decimal w) ≡ Some w
weight_back w h =
    let small : w < 10 = omega (arith, h) in
    ap weight_of (decimal_digit w small) ∙ taken (digit_below 3 (48 + w)) (Some ((48 + w) - 48)) None (digit_back 3 w h) ∙ ap Some (minus w)

pub op_back : (o : Op) → op_of (sign o) ≡ Some o
op_back Add = refl
op_back Sub = refl
op_back Mul = refl
op_back And = refl
op_back Or = refl
op_back Xor = refl
op_back Eq = refl
op_back Ne = refl
op_back Lt = refl
op_back Le = refl
op_back Both = refl
op_back Either = refl

pub name_back : (n : List ℕ) → IsName n → name_of n ≡ Some n
name_back n h = ap (λ c. if c then Some n else None) (
    both_true _ _ (both_true _ _ (both_true (nat_lt 0 (length n)) (nat_le (length n) 32) (lt-ltb 0 (length n) h.some) (le_true (length n) 32 h.short)) h.word) h.free)
