-- Spellings of one byte and of two, looked up by their bytes.
use Rattle.std.proofs.Common.{◌≡◌, ℕ, ◌<◌, nat_eq, nat_le, List, [], ◌∷◌, length, take, slice_index, Bool, true, false, ◌&&◌, Some, None, if◌then◌else◌, refl, sym, ap, ◌∙◌, arith, true≢false, eqb-true}
use Rattle.std.specs.List.{list_all}
use Rattle.std.specs.Str.{bytes_eq}
use Rattle.std.proofs.lemmas.Bool.{and_parts}
use Rattle.std.proofs.lemmas.Slice.Eq.{bytes_eq-Decides}
use Rattle.std.proofs.Math.Bool.{and-true}
use Rattle.cov_expr.specs.Bytes.{is_lower}
use Rattle.cov_expr.specs.declared.kind.Kind.{Kind}
use Rattle.cov_expr.specs.Spellings.{spellings, kind_among, kind_of, begins_with_letter}
use Rattle.cov_lex.specs.Inside.{ones, twos, kind_of_one, kind_of_two, one_kind, two_kind}

and_false : (b : Bool) → (b && false) ≡ false
and_false true = refl
and_false false = refl

one_among : (a : ℕ) (ss : List (List ℕ × Kind)) → kind_among ss (a ∷ []) ≡ kind_of_one (ones ss) a
one_among a [] = refl
one_among a (([], k) ∷ ss) = one_among a ss
one_among a ((c ∷ [], k) ∷ ss) =
    ap (λ b. if b then Some k else kind_among ss (a ∷ [])) (and-true (nat_eq a c)) ∙ ap (λ o. if nat_eq a c then Some k else o) (one_among a ss)
one_among a ((c ∷ d ∷ rest, k) ∷ ss) = ap (λ b. if b then Some k else kind_among ss (a ∷ [])) (and_false (nat_eq a c)) ∙ one_among a ss

two_among : (a b : ℕ) (ss : List (List ℕ × Kind)) → kind_among ss (a ∷ b ∷ []) ≡ kind_of_two (twos ss) a b
two_among a b [] = refl
two_among a b (([], k) ∷ ss) = two_among a b ss
two_among a b ((c ∷ [], k) ∷ ss) = ap (λ x. if x then Some k else kind_among ss (a ∷ b ∷ [])) (and_false (nat_eq a c)) ∙ two_among a b ss
two_among a b ((c ∷ d ∷ [], k) ∷ ss) =
    ap (λ x. if nat_eq a c && x then Some k else kind_among ss (a ∷ b ∷ [])) (and-true (nat_eq b d)) ∙ ap (λ o. if nat_eq a c && nat_eq b d then Some k else o) (two_among a b ss)
two_among a b ((c ∷ d ∷ e ∷ rest, k) ∷ ss) =
    ap (λ x. if nat_eq a c && x then Some k else kind_among ss (a ∷ b ∷ [])) (and_false (nat_eq b d))
    ∙ ap (λ x. if x then Some k else kind_among ss (a ∷ b ∷ [])) (and_false (nat_eq a c)) ∙ two_among a b ss

one_is_kind : (a : ℕ) → kind_of (a ∷ []) ≡ one_kind a
unfolding kind_of spellings
one_is_kind a = one_among a spellings

-- a byte that is no letter isn't that of a keyword
no_letter : (a n : ℕ) → is_lower a ≡ false → is_lower n ≡ true → nat_eq a n ≡ false
no_letter a n none letter = by (nat_eq a n) refl
  where
    by : (x : Bool) → nat_eq a n ≡ x → x ≡ false
    by false e = refl
    by true e = absurd (true≢false (sym letter ∙ ap is_lower (sym (eqb-true a n e)) ∙ none))

-- a keyword begins with a letter
two_is_kind : (a b : ℕ) → is_lower a ≡ false → kind_of (a ∷ b ∷ []) ≡ two_kind a b
unfolding kind_of spellings
two_is_kind a b letter = two_among a b spellings ∙ rw (no_letter a 97 letter refl, no_letter a 98 letter refl, no_letter a 105 letter refl) refl

-- Long words ---------------------------------------------------------------------------------------------------

-- what is longer than each spelling is none
long_among : (text : List ℕ) (ss : List (List ℕ × Kind)) → 9 < length text → list_all (λ s. nat_le (length s.0) 9) ss ≡ true → kind_among ss text ≡ None
long_among text [] long all = refl
long_among text (s ∷ ss) long all = by (bytes_eq text s.0) refl (long_among text ss long (and_parts (nat_le (length s.0) 9) (list_all (λ r. nat_le (length r.0) 9) ss) all).1)
  where
    by : (x : Bool) → bytes_eq text s.0 ≡ x → kind_among ss text ≡ None → (if x then Some s.1 else kind_among ss text) ≡ None
    by false e rest = rest
    by true e rest =
        let same = ap length ((bytes_eq-Decides text s.0).0 e) in
        let small = (and_parts (nat_le (length s.0) 9) (list_all (λ r. nat_le (length r.0) 9) ss) all).0 in
        let no : ⊥ = grind (arith, same, small, long) in absurd no

pub long_is_no_keyword : (run : List ℕ) → 9 < length run → kind_of run ≡ None
unfolding kind_of spellings
long_is_no_keyword run long = long_among run spellings long refl

-- At the front of a text ---------------------------------------------------------------------------------------

pub first_kind : (text : List ℕ) → 0 < length text → one_kind (slice_index text 0) ≡ kind_of (take 1 text)
first_kind [] some = absurd (omega (arith, some))
first_kind (a ∷ text) some = sym (one_is_kind a)

pub first_two_kind : (text : List ℕ) → 1 < length text → begins_with_letter text ≡ false → two_kind (slice_index text 0) (slice_index text 1) ≡ kind_of (take 2 text)
first_two_kind [] long letter = absurd (omega (arith, long))
first_two_kind (a ∷ []) long letter = absurd (omega (arith, long))
first_two_kind (a ∷ b ∷ text) long letter = sym (two_is_kind a b letter)
