-- What is read of a field is spelled as the field.
use Rattle.std.proofs.Common.{◌≡◌, ℕ, ◌+◌, ◌-◌, ◌<◌, ◌==◌, ◌&&◌, ◌||◌, not, nat_le, nat_lt, List, [], ◌∷◌, length, get_or, refl, ap, sym, ◌∙◌, subst, arith, add-one, decimal, Bool, true, false, if◌then◌else◌, Option, Some, None, ◌⊎◌, inl, inr}
use Rattle.std.proofs.lemmas.Bool.{and_parts, or_cases, leb-true, ltb-true, eqb-true}
use Rattle.std.proofs.lemmas.Fmt.{decimal-digits_value, decimal_digit}
use Rattle.std.proofs.lemmas.Slice.Eq.{bytes_eq-Decides}
use Rattle.std.proofs.lemmas.Str.Parse.{numerals_by_value, tells_digits}
use Rattle.std.specs.List.{list_all}
use Rattle.std.specs.Str.{bytes_eq}
use Rattle.std.specs.Char.{digit_value}
use Rattle.std.specs.Str.Parse.{AllDigits, digits_value}
use Rattle.cov_expr.specs.Bytes.{is_digit}
use Rattle.cov_expr.specs.declared.expr.Op.{Op}
use Rattle.code_text.specs.Listing.{register, name, sign}
use Rattle.code_text.specs.Inside.ListingReading.{is_name, name_of, is_number, number_of, digit_below, register_of, weight_of, id_from, op_of}

-- a test that was passed, and what it gave
pub given : {A : Type 0} (b : Bool) (x v : A) → (if b then Some x else None) ≡ Some v → (b ≡ true) × (x ≡ v)
given true x v h = (refl, cc)
given false x v h = absurd cc

-- one branch or the other
pub chosen : {A : Type 0} (b : Bool) (x y : Option A) (v : A) → (if b then x else y) ≡ Some v → ((b ≡ true) × (x ≡ Some v)) ⊎ (y ≡ Some v)
chosen true x y v h = inl (refl, h)
chosen false x y v h = inr h

pub same_word : (w v : List ℕ) → bytes_eq w v ≡ true → w ≡ v
same_word w v h = (bytes_eq-Decides w v).0 h

pub name_is : (f n : List ℕ) → name_of f ≡ Some n → f ≡ n
name_is f n h = (given (is_name f) f n h).1

all_digits : (ds : List ℕ) → list_all is_digit ds ≡ true → AllDigits 10 ds
all_digits [] h = tt
all_digits (c ∷ cs) h =
    let p = and_parts (is_digit c) (list_all is_digit cs) h in
    let range = and_parts (nat_le 48 c) (nat_le c 57) p.0 in
    let low = leb-true 48 c range.0 in
    let high = leb-true c 57 range.1 in
    let value : digit_value c ≡ c - 48 = grind (arith, low, high) in
    (omega (arith, value, low, high), all_digits cs p.1)

no_zero : (f : List ℕ) → (not (get_or f 0 0 == 48) || length f == 1) ≡ true → get_or f 0 0 ≡ 48 → length f ≡ 1
no_zero f h z = elim (or_cases (not (get_or f 0 0 == 48)) (length f == 1) h) [
  | inl other ↦ absurd (let e : (not (48 == 48)) ≡ true = subst (λ b. (not (b == 48)) ≡ true) z other in cc)
  | inr one ↦ eqb-true (length f) 1 one
]

pub number_is : (f : List ℕ) (n : ℕ) → number_of f ≡ Some n → f ≡ decimal n
number_is f n h =
    let g = given (is_number f && nat_le (digits_value 10 f) 4294967295) (digits_value 10 f) n h in
    let p = and_parts (is_number f) (nat_le (digits_value 10 f) 4294967295) g.0 in
    let q = and_parts (list_all is_digit f && nat_lt 0 (length f)) (not (get_or f 0 0 == 48) || length f == 1) p.0 in
    let r = and_parts (list_all is_digit f) (nat_lt 0 (length f)) q.0 in
    sym (decimal-digits_value (numerals_by_value (AllDigits 10) tells_digits) f (all_digits f r.0) (ltb-true 0 (length f) r.1) (no_zero f q.1)
    (let small = leb-true (digits_value 10 f) 4294967295 p.1 in omega (arith, small)))
    ∙ ap decimal g.1

digit_is : (n b d : ℕ) → digit_below n b ≡ true → b - 48 ≡ d → b ≡ 48 + d
digit_is n b d h e = let p = and_parts (nat_le 48 b) (nat_lt b (48 + n)) h in omega (arith, leb-true 48 b p.0, e)

pub register_is : (f : List ℕ) (r : ℕ) → register_of f ≡ Some r → f ≡ register r
register_is [] r h = absurd cc
register_is (a ∷ []) r h = absurd cc
register_is (a ∷ b ∷ []) r h =
    let g = given (a == 114 && digit_below 8 b) (b - 48) r h in
    let p = and_parts (a == 114) (digit_below 8 b) g.0 in
    ap (λ x. x ∷ b ∷ []) (eqb-true a 114 p.0) ∙ ap (λ x. 114 ∷ x ∷ []) (digit_is 8 b r p.1 g.1)
register_is (a ∷ b ∷ c ∷ f) r h = absurd cc

pub weight_is : (f : List ℕ) (w : ℕ) → weight_of f ≡ Some w → f ≡ decimal w
weight_is [] w h = absurd cc
weight_is (b ∷ []) w h =
    let g = given (digit_below 3 b) (b - 48) w h in
    let p = and_parts (nat_le 48 b) (nat_lt b 51) g.0 in
    let small : w < 10 = omega (arith, ltb-true b 51 p.1, g.1) in
    ap (λ x. x ∷ []) (digit_is 3 b w g.0 g.1) ∙ sym (decimal_digit w small)
weight_is (a ∷ b ∷ f) w h = absurd cc

id_later : (i : ℕ) (names : List (List ℕ)) (f : List ℕ) (x : ℕ) → id_from i names f ≡ Some x → (k : ℕ) × (x ≡ i + k) × (f ≡ get_or names k [])
id_later i [] f x h = absurd cc
id_later i (n ∷ ns) f x h = elim (chosen (bytes_eq f n) (Some i) (id_from (i + 1) ns f) x h) [
  | inl here ↦ (0, (let e : i ≡ x = cc (here.1) in omega (arith, e)), same_word f n here.0)
  | inr later ↦ (let rest = id_later (i + 1) ns f x later in (rest.0 + 1, omega (arith, rest.1), rest.2 ∙ ap (λ k. get_or (n ∷ ns) k []) (sym (add-one rest.0))))
]

pub id_is : (names : List (List ℕ)) (f : List ℕ) (x : ℕ) → id_from 0 names f ≡ Some x → f ≡ name names x
id_is names f x h = let p = id_later 0 names f x h in p.2 ∙ ap (λ k. get_or names k []) (let e : p.0 ≡ x = omega (arith, p.1) in e)

-- an operator behind a test of its sign
tried : (f v : List ℕ) (o p : Op) (rest : Option Op) → (if bytes_eq f v then Some o else rest) ≡ Some p → v ≡ sign o → (rest ≡ Some p → f ≡ sign p) → f ≡ sign p
tried f v o p rest h is further = elim (chosen (bytes_eq f v) (Some o) rest p h) [
  | inl here ↦ same_word f v here.0 ∙ is ∙ ap sign (let e : o ≡ p = cc (here.1) in e)
  | inr later ↦ further later
]

pub op_is : (f : List ℕ) (o : Op) → op_of f ≡ Some o → f ≡ sign o
op_is f o h =
    tried f _ _ o _ h refl (λ h. tried f _ _ o _ h refl (λ h. tried f _ _ o _ h refl (λ h. tried f _ _ o _ h refl (λ h. tried f _ _ o _ h refl (λ h. tried f _ _ o _ h refl
    (λ h. tried f _ _ o _ h refl (λ h. tried f _ _ o _ h refl (λ h. tried f _ _ o _ h refl (λ h. tried f _ _ o _ h refl (λ h. tried f _ _ o _ h refl (λ h. tried f _ _ o None h refl
    (λ h. absurd cc))))))))))))
