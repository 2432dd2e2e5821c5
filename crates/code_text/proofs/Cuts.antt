-- A text that is cut at a byte.
use Rattle.std.proofs.Common.{◌≡◌, ℕ, ◌+◌, ◌<◌, ◌≤◌, ◌-◌, ◌==◌, List, [], ◌∷◌, ◌++◌, length, take, drop, get_or, refl, ap, sym, ◌∙◌, append_assoc, add-one, arith, drop-cons, length-append, length-drop, Bool, true, false, if◌then◌else◌}
use Rattle.std.proofs.lemmas.List.{append-nil, get_or-drop, take_more}
use Rattle.std.proofs.Math.Seq.{take-length, drop-length}
use Rattle.code_text.specs.Listing.{onto}
use Rattle.code_text.specs.Inside.ListingReading.{pieces}

-- with bytes before the first piece
abbrev pub glue : List ℕ → List (List ℕ) → List (List ℕ)
glue xs [] = xs ∷ []
glue xs (f ∷ fs) = (xs ++ f) ∷ fs

glue_more : (xs : List ℕ) (b : ℕ) (ps : List (List ℕ)) → glue xs (onto b ps) ≡ glue (xs ++ b ∷ []) ps
glue_more xs b [] = refl
glue_more xs b (f ∷ fs) = ap (λ x. x ∷ fs) (sym (append_assoc xs (b ∷ []) f))

pub some_piece : (at : ℕ) (bs : List ℕ) → glue [] (pieces at bs) ≡ pieces at bs
some_piece at [] = refl
some_piece at (b ∷ bs) = by (b == at) (pieces at bs)
  where
    by : (c : Bool) (ps : List (List ℕ)) → glue [] (if c then [] ∷ ps else onto b ps) ≡ (if c then [] ∷ ps else onto b ps)
    by true ps = refl
    by false [] = refl
    by false (f ∷ fs) = refl

-- At the start nothing was passed.
pub cut_start : (at : ℕ) (bs : List ℕ) → glue (take 0 bs) (pieces at (drop 0 bs)) ≡ pieces at bs
cut_start at bs = some_piece at bs

module _ (at i : ℕ) (bs : List ℕ) (inside : i < length bs) where
  front : drop i bs ≡ get_or bs i 0 ∷ drop (i + 1) bs
  front = drop-cons bs i 0 inside ∙ ap (λ n. get_or bs i 0 ∷ drop n bs) (sym (add-one i))

  pub cut_past : (get_or bs i 0 == at) ≡ false → glue (take (i + 1) bs) (pieces at (drop (i + 1) bs)) ≡ glue (take i bs) (pieces at (drop i bs))
  cut_past other = sym (ap (λ x. glue (take i bs) (pieces at x)) front
      ∙ ap (λ c. glue (take i bs) (if c then [] ∷ pieces at (drop (i + 1) bs) else onto (get_or bs i 0) (pieces at (drop (i + 1) bs)))) other
      ∙ glue_more (take i bs) (get_or bs i 0) (pieces at (drop (i + 1) bs))
      ∙ ap (λ x. glue x (pieces at (drop (i + 1) bs))) (sym (take_more bs i 0 inside)))

  pub cut_here : (get_or bs i 0 == at) ≡ true → glue (take i bs) (pieces at (drop i bs)) ≡ take i bs ∷ pieces at (drop (i + 1) bs)
  cut_here same = ap (λ x. glue (take i bs) (pieces at x)) front
      ∙ ap (λ c. glue (take i bs) (if c then [] ∷ pieces at (drop (i + 1) bs) else onto (get_or bs i 0) (pieces at (drop (i + 1) bs)))) same
      ∙ ap (λ x. x ∷ pieces at (drop (i + 1) bs)) (append-nil (take i bs))

pub cut_none : (at : ℕ) (bs : List ℕ) → glue (take (length bs) bs) (pieces at (drop (length bs) bs)) ≡ bs ∷ []
cut_none at bs = simp (take-length, drop-length, append-nil)

-- Pieces so far ---------------------------------------------------------------------------------------------------

-- Whatever follows the bytes, they have these pieces and one that goes on with these bytes.
abbrev pub Begun : ℕ → (xs : List ℕ) → (fs : List (List ℕ)) → (r : List ℕ) → Type 0
Begun at xs fs r = (ys : List ℕ) → pieces at (xs ++ ys) ≡ fs ++ glue r (pieces at ys)

pub begun_start : (at : ℕ) → Begun at [] [] []
begun_start at ys = sym (some_piece at ys)

module _ (at : ℕ) (xs : List ℕ) (fs : List (List ℕ)) (r : List ℕ) (h : Begun at xs fs r) where
  pub begun_whole : pieces at xs ≡ fs ++ r ∷ []
  begun_whole = ap (pieces at) (sym (append-nil xs)) ∙ h [] ∙ ap (λ x. fs ++ x ∷ []) (append-nil r)

  pub begun_many : (ys : List ℕ) → length fs + 1 ≤ length (pieces at (xs ++ ys))
  begun_many ys = omega (arith, ap length (h ys), length-append fs (glue r (pieces at ys)), some (pieces at ys))
    where
      some : (ps : List (List ℕ)) → 1 ≤ length (glue r ps)
      some [] = omega arith
      some (p ∷ ps) = omega arith

  module _ (b : ℕ) where
    -- the byte ends a piece
    pub begun_ends : (b == at) ≡ true → Begun at (xs ++ b ∷ []) (fs ++ r ∷ []) []
    begun_ends same ys = ap (pieces at) (append_assoc xs (b ∷ []) ys) ∙ h (b ∷ ys)
        ∙ ap (λ c. fs ++ glue r (if c then [] ∷ pieces at ys else onto b (pieces at ys))) same
        ∙ ap (λ x. fs ++ x ∷ pieces at ys) (append-nil r)
        ∙ sym (append_assoc fs (r ∷ []) (pieces at ys))
        ∙ ap (λ ps. (fs ++ r ∷ []) ++ ps) (sym (some_piece at ys))

    -- the byte belongs to the last piece
    pub begun_goes : (b == at) ≡ false → Begun at (xs ++ b ∷ []) fs (r ++ b ∷ [])
    begun_goes other ys = ap (pieces at) (append_assoc xs (b ∷ []) ys) ∙ h (b ∷ ys)
        ∙ ap (λ c. fs ++ glue r (if c then [] ∷ pieces at ys else onto b (pieces at ys))) other
        ∙ ap (λ ps. fs ++ ps) (glue_more r b (pieces at ys))

-- the bytes from one index to another
abbrev pub between : ℕ → ℕ → List ℕ → List ℕ
between s i bs = take (i - s) (drop s bs)

module _ (at s i : ℕ) (bs : List ℕ) (fs : List (List ℕ)) (order : s ≤ i) (inside : i < length bs) (h : Begun at (take i bs) fs (between s i bs)) where
  between_more : between s (i + 1) bs ≡ between s i bs ++ get_or bs i 0 ∷ []
  between_more =
      let within : i - s < length (drop s bs) = omega (arith, length-drop s bs) in
      let one : i + 1 - s ≡ (i - s) + 1 = omega arith in
      let here : s + (i - s) ≡ i = omega arith in
      ap (λ n. take n (drop s bs)) one ∙ take_more (drop s bs) (i - s) 0 within
      ∙ ap (λ b. take (i - s) (drop s bs) ++ b ∷ []) (get_or-drop s bs (i - s) 0 ∙ ap (λ n. get_or bs n 0) here)

  pub fields_end : (get_or bs i 0 == at) ≡ true → Begun at (take (i + 1) bs) (fs ++ between s i bs ∷ []) (between (i + 1) (i + 1) bs)
  fields_end same =
      let none : i + 1 - (i + 1) ≡ 0 = omega arith in
      λ ys. ap (λ xs. pieces at (xs ++ ys)) (take_more bs i 0 inside) ∙ begun_ends at (take i bs) fs (between s i bs) h (get_or bs i 0) same ys
      ∙ ap (λ n. (fs ++ between s i bs ∷ []) ++ glue (take n (drop (i + 1) bs)) (pieces at ys)) (sym none)

  pub fields_go : (get_or bs i 0 == at) ≡ false → Begun at (take (i + 1) bs) fs (between s (i + 1) bs)
  fields_go other =
      λ ys. ap (λ xs. pieces at (xs ++ ys)) (take_more bs i 0 inside) ∙ begun_goes at (take i bs) fs (between s i bs) h (get_or bs i 0) other ys
      ∙ ap (λ r. fs ++ glue r (pieces at ys)) (sym between_more)
