-- Ranges of numbers of which some pass a test.
use Rattle.std.proofs.Common.{◌≡◌, ℕ, zero, suc, ◌+◌, ◌<◌, List, [], ◌∷◌, ◌++◌, map, Bool, true, false, cond, refl, sym, ap, ap₂, ◌∙◌, arith, if◌then◌else◌, append_assoc}
use Rattle.std.specs.Prelude.{filter}
use Rattle.std.specs.List.{range_with_len}
use Rattle.std.proofs.lemmas.List.FromFn.{filter_of_map_range_with_len_more}
use Rattle.std.proofs.lemmas.List.{map-append, map-id}

-- what is added for one more number
pub range_more : {X : Type 0} (f : ℕ → X) (test : ℕ → Bool) (first old new : List X) (n : ℕ)
    → old ≡ first ++ map f (filter test (range_with_len 0 n)) → new ≡ old ++ (if test n then f n ∷ [] else [])
    → new ≡ first ++ map f (filter test (range_with_len 0 (n + 1)))
range_more f test first old new n kept added =
    added ∙ ap (λ es. es ++ (if test n then f n ∷ [] else [])) kept ∙ append_assoc first (map f before) (if test n then f n ∷ [] else [])
    ∙ ap (λ es. first ++ (map f before ++ es)) (sym (each (test n)))
    ∙ ap (λ es. first ++ es) (sym (map-append f before (if test n then n ∷ [] else [])))
    ∙ ap (λ xs. first ++ map f xs) (sym passed)
  where
    before : List ℕ
    before = filter test (range_with_len 0 n)

    passed : filter test (range_with_len 0 (n + 1)) ≡ before ++ (if test n then n ∷ [] else [])
    passed =
        sym (ap (filter test) (map-id (range_with_len 0 (n + 1)))) ∙ filter_of_map_range_with_len_more test (λ k. k) 0 n n (omega arith)
        ∙ ap (λ xs. filter test xs ++ (if test n then n ∷ [] else [])) (map-id (range_with_len 0 n))

    each : (b : Bool) → map f (if b then n ∷ [] else []) ≡ (if b then f n ∷ [] else [])
    each true = refl
    each false = refl

-- tests that agree on the numbers of a range
pub filter_same : (t u : ℕ → Bool) (a n : ℕ) → ((y : ℕ) → y < a + n → t y ≡ u y) → filter t (range_with_len a n) ≡ filter u (range_with_len a n)
filter_same t u a zero same = refl
filter_same t u a (suc n) same = ap₂ (λ b ys. cond b (a ∷ ys) ys) (same a (omega arith)) (filter_same t u (a + 1) n (λ y h. same y (omega (arith, h))))
