-- Pieces without the byte between them are found again.
use Rattle.std.proofs.Common.{◌≡◌, ℕ, ◌==◌, List, [], ◌∷◌, ◌++◌, refl, ap, sym, ◌∙◌, Bool, true, false, if◌then◌else◌}
use Rattle.code_text.specs.Listing.{onto}
use Rattle.code_text.specs.Inside.ListingReading.{pieces}
use Rattle.code_text.proofs.SoundLaws.{joined}

-- no byte of the piece is `at`
abbrev pub IsFree : ℕ → List ℕ → Type 0
IsFree at [] = Unit {0}
IsFree at (b ∷ bs) = ((b == at) ≡ false) × IsFree at bs

abbrev pub AreFree : ℕ → List (List ℕ) → Type 0
AreFree at [] = Unit {0}
AreFree at (f ∷ fs) = IsFree at f × AreFree at fs

pub free_append : (at : ℕ) (xs ys : List ℕ) → IsFree at xs → IsFree at ys → IsFree at (xs ++ ys)
free_append at [] ys f g = g
free_append at (x ∷ xs) ys f g = (f.0, free_append at xs ys f.1 g)

-- a piece, and what is behind its end
pub piece_first : (at : ℕ) (f bs : List ℕ) → (at == at) ≡ true → IsFree at f → pieces at (f ++ at ∷ bs) ≡ f ∷ pieces at bs
piece_first at [] bs same free = ap (λ c. if c then [] ∷ pieces at bs else onto at (pieces at bs)) same
piece_first at (b ∷ f) bs same free =
    ap (λ c. if c then [] ∷ pieces at (f ++ at ∷ bs) else onto b (pieces at (f ++ at ∷ bs))) free.0 ∙ ap (onto b) (piece_first at f bs same free.1)

pub piece_last : (at : ℕ) (f : List ℕ) → IsFree at f → pieces at f ≡ f ∷ []
piece_last at [] free = refl
piece_last at (b ∷ f) free = ap (λ c. if c then [] ∷ pieces at f else onto b (pieces at f)) free.0 ∙ ap (onto b) (piece_last at f free.1)

pub pieces_joined : (at : ℕ) (f : List ℕ) (fs : List (List ℕ)) → (at == at) ≡ true → IsFree at f → AreFree at fs → pieces at (joined at (f ∷ fs)) ≡ f ∷ fs
pieces_joined at f [] same free all = piece_last at f free
pieces_joined at f (g ∷ fs) same free all = piece_first at f (joined at (g ∷ fs)) same free ∙ ap (λ ps. f ∷ ps) (pieces_joined at g fs same all.0 all.1)

-- no piece has the byte
pub pieces_free : (at : ℕ) (bs : List ℕ) → AreFree at (pieces at bs)
pieces_free at [] = (tt, tt)
pieces_free at (b ∷ bs) = by (b == at) refl (pieces at bs) (pieces_free at bs)
  where
    by : (c : Bool) → (b == at) ≡ c → (ps : List (List ℕ)) → AreFree at ps → AreFree at (if c then [] ∷ ps else onto b ps)
    by true e ps free = (tt, free)
    by false e [] free = ((e, tt), tt)
    by false e (f ∷ fs) free = ((e, free.0), free.1)

-- a text that ends with the byte has it
pub free_not : (at : ℕ) (bs : List ℕ) → (at == at) ≡ true → IsFree at (bs ++ at ∷ []) → ⊥
free_not at [] same free = let e : true ≡ false = sym same ∙ free.0 in cc
free_not at (b ∷ bs) same free = free_not at bs same free.1
