-- Names are read exactly: each byte is refused with which no name goes on.
use Rattle.std.proofs.Common.{◌≡◌, ℕ, zero, suc, ◌<◌, ◌≤◌, nat_lt, ◌==◌, ◌&&◌, ◌||◌, not, List, [], ◌∷◌, ◌++◌, length, refl, ap, sym, ◌∙◌, subst, append_assoc, arith, Bool, true, false, if◌then◌else◌, Some, None, ◌⊎◌, inl, inr}
use Rattle.std.proofs.lemmas.Bool.{and_parts, and_from, or_left, or_right, lt-ltb, not_from_false}
use Rattle.std.proofs.lemmas.Slice.Eq.{bytes_eq-Decides}
use Rattle.std.specs.List.{list_all}
use Rattle.std.proofs.lemmas.List.Folds.{list_all-append}
use Rattle.std.specs.Str.{bytes_eq}
use Rattle.cov_expr.specs.Bytes.{is_lower, is_word}
use Rattle.cov_expr.specs.Names.{IsName, is_word_text}
use Rattle.cov_expr.specs.Spellings.{is_keyword, kind_of, kind_among, spellings, begins_with_letter}
use Rattle.cov_expr.specs.declared.kind.Kind.{Kind}
use Rattle.object_code.specs.Inside.ObjectReading.{then_at, stands, goes_on, with_byte, within_at, text_at, name_at}
use Rattle.object_code.specs.Object.{name}
use Rattle.object_code.proofs.Exact.{IsExact, AllGo, then_exact, same_exact, scan_exact, some_text, bind_same, bind_done}
use Rattle.object_code.proofs.Fields.{Within, within_exact}

-- No keyword ends with 0 -------------------------------------------------------------------------------------------

abbrev ends_with_0 : List ℕ → Bool
ends_with_0 [] = false
ends_with_0 (b ∷ []) = b == 48
ends_with_0 (b ∷ c ∷ bs) = ends_with_0 (c ∷ bs)

ends_so : (before : List ℕ) → ends_with_0 (before ++ 48 ∷ []) ≡ true
ends_so [] = refl
ends_so (b ∷ []) = refl
ends_so (b ∷ c ∷ bs) = ends_so (c ∷ bs)

none_ends : list_all (λ s. not (ends_with_0 s.0)) spellings ≡ true
unfolding spellings
none_ends = refl

unfound : (text : List ℕ) → ends_with_0 text ≡ true → (ss : List (List ℕ × Kind)) → list_all (λ s. not (ends_with_0 s.0)) ss ≡ true → kind_among ss text ≡ None
unfound text ends [] h = refl
unfound text ends (s ∷ ss) h =
    let p = and_parts (not (ends_with_0 s.0)) (list_all (λ s. not (ends_with_0 s.0)) ss) h in
    by (bytes_eq text s.0) refl p.0 (unfound text ends ss p.1)
  where
    by : (b : Bool) → bytes_eq text s.0 ≡ b → not (ends_with_0 s.0) ≡ true → kind_among ss text ≡ None → (if b then Some s.1 else kind_among ss text) ≡ None
    by true e other rest = let no : not true ≡ true = subst (λ t. not t ≡ true) (sym (ap ends_with_0 ((bytes_eq-Decides text s.0).0 e)) ∙ ends) other in absurd cc
    by false e other rest = rest

no_keyword : (before : List ℕ) → is_keyword (before ++ 48 ∷ []) ≡ false
unfolding is_keyword kind_of
no_keyword before = rw (unfound (before ++ 48 ∷ []) (ends_so before) spellings none_ends) (by (begins_with_letter (before ++ 48 ∷ [])))
  where
    by : (b : Bool) → (b && false) ≡ false
    by true = refl
    by false = refl

a_is_free : not (is_keyword (97 ∷ [])) ≡ true
unfolding is_keyword kind_of spellings
a_is_free = refl

-- the shortest name
abbrev pub shortest : List ℕ
shortest = 97 ∷ []

pub shortest_is_name : IsName shortest
shortest_is_name = record { some = omega arith; short = omega arith; word = refl; free = a_is_free }

-- The bytes so far -------------------------------------------------------------------------------------------------

abbrev IsBegun : List ℕ → Type 0
IsBegun before = (before ≡ []) ⊎ (is_word_text before ≡ true)

step : (left : ℕ) (before : List ℕ) → IsBegun before → (b : ℕ) × (goes_on left before b ≡ true)
step left [] h = (97, or_right (nat_lt 0 left) (not (is_keyword shortest)) a_is_free)
step left (c ∷ before) h = (48, or_right (nat_lt 0 left) (not (is_keyword (c ∷ before ++ 48 ∷ []))) (not_from_false (is_keyword (c ∷ before ++ 48 ∷ [])) (no_keyword (c ∷ before))))

longer : (before : List ℕ) (b : ℕ) → IsBegun before → stands before b ≡ true → is_word_text (before ++ b ∷ []) ≡ true
longer [] b h s = and_from (is_lower b) true s refl
longer (c ∷ before) b (inl none) s = absurd cc
longer (c ∷ before) b (inr word) s =
    let p = and_parts (is_lower c) (list_all is_word before) word in
    and_from (is_lower c) (list_all is_word (before ++ b ∷ [])) p.0
    (list_all-append is_word before (b ∷ []) ∙ and_from (list_all is_word before) (list_all is_word (b ∷ [])) p.1 (and_from (is_word b) true s refl))

keep : (left : ℕ) (before : List ℕ) (b : ℕ) → IsBegun before → goes_on left before b ≡ true → IsBegun (with_byte before b)
keep left before b h g = inr (longer before b h (and_parts (stands before b) (nat_lt 0 left || not (is_keyword (before ++ b ∷ []))) g).0)

abbrev pub IsText : ℕ → List ℕ → List ℕ → Type 0
IsText left before text = AllGo goes_on with_byte left before text

text_length : (left : ℕ) (before text : List ℕ) → IsText left before text → length text ≡ left
text_length zero before [] h = refl
text_length zero before (b ∷ text) h = absurd h
text_length (suc left) before [] h = absurd h
text_length (suc left) before (b ∷ text) h = ap suc (text_length left (before ++ b ∷ []) text h.1)

-- a word that is no keyword
abbrev IsFreeWord : List ℕ → Type 0
IsFreeWord text = (is_word_text text ≡ true) × (not (is_keyword text) ≡ true)

free_word : (left : ℕ) (before text : List ℕ) → IsBegun before → IsText (suc left) before text → IsFreeWord (before ++ text)
free_word left before [] h g = absurd g
free_word zero before (b ∷ []) h g = let p = and_parts (stands before b) (false || not (is_keyword (before ++ b ∷ []))) g.0 in (longer before b h p.0, p.1)
free_word zero before (b ∷ c ∷ text) h g = absurd (g.1)
free_word (suc left) before (b ∷ text) h g = subst IsFreeWord (append_assoc before (b ∷ []) text) (free_word left (before ++ b ∷ []) text (keep (suc left) before b h g.0) g.1)

stood : (before : List ℕ) (b : ℕ) (text : List ℕ) → is_word_text (before ++ b ∷ text) ≡ true → stands before b ≡ true
stood [] b text h = (and_parts (is_lower b) (list_all is_word text) h).0
stood (c ∷ before) b text h =
    let p = and_parts (is_lower c) (list_all is_word (before ++ b ∷ text)) h in
    let q = and_parts (list_all is_word before) (list_all is_word (b ∷ text)) (sym (list_all-append is_word before (b ∷ text)) ∙ p.1) in
    (and_parts (is_word b) (list_all is_word text) q.1).0

text_of : (left : ℕ) (before text : List ℕ) → length text ≡ suc left → IsFreeWord (before ++ text) → IsText (suc left) before text
text_of left before [] l h = absurd (omega (arith, l))
text_of zero before (b ∷ []) l h = (and_from (stands before b) (false || not (is_keyword (before ++ b ∷ []))) (stood before b [] h.0) h.1, tt)
text_of zero before (b ∷ c ∷ text) l h = absurd (omega (arith, l))
text_of (suc left) before (b ∷ text) l h = (
  and_from (stands before b) (nat_lt 0 (suc left) || not (is_keyword (before ++ b ∷ []))) (stood before b text h.0) (or_left (nat_lt 0 (suc left)) (not (is_keyword (before ++ b ∷ []))) (lt-ltb 0 (suc left) (omega arith))),
  text_of left (before ++ b ∷ []) text (omega (arith, l)) (subst IsFreeWord (sym (append_assoc before (b ∷ []) text)) h),
)

-- Names ------------------------------------------------------------------------------------------------------------

pub text_exact : (len : ℕ) → IsExact (λ text. text) (IsText len []) (text_at len)
unfolding text_at
text_exact len = scan_exact goes_on with_byte (λ left. IsBegun) (λ left. step left) (λ left. keep left) len [] (inl refl)

pub name_of_text : (len : ℕ) (text : List ℕ) → 0 < len → len ≤ 32 → IsText len [] text → IsName text
name_of_text zero text some short h = absurd (omega (arith, some))
name_of_text (suc left) text some short h =
    let l = text_length (suc left) [] text h in
    let w = free_word left [] text (inl refl) h in
    record { some = omega (arith, l, some); short = omega (arith, l, short); word = w.0; free = w.1 }

text_of_name : (n : List ℕ) → IsName n → IsText (length n) [] n
text_of_name [] h = tt
text_of_name (b ∷ n) h = text_of (length n) [] (b ∷ n) refl (h.word, h.free)

whole_exact : IsExact name IsName (then_at (within_at 1 32) text_at (λ len text. text))
whole_exact = then_exact (λ b. b ∷ []) (Within 1 32) (within_at 1 32) (λ text. text) (λ len. IsText len []) text_at (λ len text. text) name IsName (record {
  first = within_exact 1 32 (omega arith);
  second = λ len h. text_exact len;
  some = λ len h. some_text goes_on with_byte (λ left. IsBegun) (λ left. step left) (λ left. keep left) len [] (inl refl);
  spelled = λ len text h g. ap (λ l. l ∷ text) (text_length len [] text g);
  fits = λ len text h g. name_of_text len text (omega (arith, h.0)) h.1 g;
  parts = λ n h. (length n, n, (omega (arith, h.some), h.short), text_of_name n h, refl);
})

pub name_exact : IsExact name IsName name_at
unfolding name_at
name_exact = same_exact name IsName name_at (then_at (within_at 1 32) text_at (λ len text. text)) (λ bs. bind_same (within_at 1 32 bs) _ _ (λ len. bind_done (text_at len.0 len.1))) whole_exact
