-- What is read of a field is in its range.
use Rattle.std.proofs.Common.{◌≡◌, ℕ, ◌+◌, ◌-◌, ◌<◌, ◌≤◌, ◌==◌, ◌&&◌, not, nat_le, nat_lt, List, [], ◌∷◌, length, subst, arith, true, Some, inl, inr}
use Rattle.std.proofs.lemmas.Bool.{and_parts, leb-true, lt-ltb, ltb-true}
use Rattle.std.specs.Str.{bytes_eq}
use Rattle.std.specs.Str.Parse.{digits_value}
use Rattle.cov_expr.specs.Names.{IsName, is_word_text}
use Rattle.cov_expr.specs.Spellings.{is_keyword}
use Rattle.cov_expr.specs.Words.{IsWord}
use Rattle.code_text.specs.Inside.ListingReading.{is_name, name_of, is_number, number_of, digit_below, register_of, weight_of, id_from}
use Rattle.code_text.proofs.FieldLaws.{given, chosen}

pub name_ranges : (f n : List ℕ) → name_of f ≡ Some n → IsName n
name_ranges f n h =
    let g = given (is_name f) f n h in
    let p = and_parts (nat_lt 0 (length f) && nat_le (length f) 32 && is_word_text f) (not (is_keyword f)) g.0 in
    let q = and_parts (nat_lt 0 (length f) && nat_le (length f) 32) (is_word_text f) p.0 in
    let r = and_parts (nat_lt 0 (length f)) (nat_le (length f) 32) q.0 in
    let named : IsName f = record { some = ltb-true 0 (length f) r.0; short = leb-true (length f) 32 r.1; word = q.1; free = p.1 } in
    subst IsName g.1 named

pub number_ranges : (f : List ℕ) (n : ℕ) → number_of f ≡ Some n → IsWord n
number_ranges f n h =
    let g = given (is_number f && nat_le (digits_value 10 f) 4294967295) (digits_value 10 f) n h in
    let p = and_parts (is_number f) (nat_le (digits_value 10 f) 4294967295) g.0 in
    omega (arith, leb-true (digits_value 10 f) 4294967295 p.1, g.1)

digit_ranges : (n b d : ℕ) → digit_below n b ≡ true → b - 48 ≡ d → d < n
digit_ranges n b d h e = let p = and_parts (nat_le 48 b) (nat_lt b (48 + n)) h in omega (arith, leb-true 48 b p.0, ltb-true b (48 + n) p.1, e)

pub register_ranges : (f : List ℕ) (r : ℕ) → register_of f ≡ Some r → nat_lt r 8 ≡ true
register_ranges [] r h = absurd cc
register_ranges (a ∷ []) r h = absurd cc
register_ranges (a ∷ b ∷ []) r h =
    let g = given (a == 114 && digit_below 8 b) (b - 48) r h in
    lt-ltb r 8 (digit_ranges 8 b r (and_parts (a == 114) (digit_below 8 b) g.0).1 g.1)
register_ranges (a ∷ b ∷ c ∷ f) r h = absurd cc

pub weight_ranges : (f : List ℕ) (w : ℕ) → weight_of f ≡ Some w → w ≤ 2
weight_ranges [] w h = absurd cc
weight_ranges (b ∷ []) w h = let g = given (digit_below 3 b) (b - 48) w h in let small = digit_ranges 3 b w g.0 g.1 in omega (arith, small)
weight_ranges (a ∷ b ∷ f) w h = absurd cc

id_below : (i : ℕ) (names : List (List ℕ)) (f : List ℕ) (x : ℕ) → id_from i names f ≡ Some x → x < i + length names
id_below i [] f x h = absurd cc
id_below i (n ∷ ns) f x h = elim (chosen (bytes_eq f n) (Some i) (id_from (i + 1) ns f) x h) [
  | inl here ↦ (let e : i ≡ x = cc (here.1) in omega (arith, e))
  | inr later ↦ (let k = id_below (i + 1) ns f x later in omega (arith, k))
]

pub id_ranges : (names : List (List ℕ)) (f : List ℕ) (x : ℕ) → id_from 0 names f ≡ Some x → nat_lt x (length names) ≡ true
id_ranges names f x h = let k = id_below 0 names f x h in lt-ltb x (length names) (omega (arith, k))
