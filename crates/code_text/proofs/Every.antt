-- What holds at each item of a list, item by item.
use Rattle.std.proofs.Common.{◌≡◌, ℕ, ◌+◌, ◌<◌, subst, take, zero, suc, List, [], ◌∷◌, ◌++◌, length, get_or, replicate, All, arith}
use Rattle.std.proofs.lemmas.List.Elements.{All-more}

abbrev pub Every : {A : Type 0} → (A → Type 0) → List A → Type 0
Every P [] = Unit {0}
Every P (x ∷ xs) = P x × Every P xs

pub every_from : {A : Type 0} (P : A → Type 0) (xs : List A) → All P xs → Every P xs
every_from P [] h = tt
every_from P (x ∷ xs) h = (h zero x (omega arith), every_from P xs (λ k d inside. h (suc k) d (omega (arith, inside))))

every_at : {A : Type 0} (P : A → Type 0) (xs : List A) → Every P xs → (k : ℕ) (d : A) → k < length xs → P (get_or xs k d)
every_at P [] h k d inside = absurd (omega (arith, inside))
every_at P (x ∷ xs) h zero d inside = h.0
every_at P (x ∷ xs) h (suc k) d inside = every_at P xs h.1 k d (omega (arith, inside))

pub all_from : {A : Type 0} (P : A → Type 0) (xs : List A) → Every P xs → All P xs
all_from P xs h = λ k d inside. every_at P xs h k d inside

pub every_append : {A : Type 0} (P : A → Type 0) (xs ys : List A) → Every P xs → Every P ys → Every P (xs ++ ys)
every_append P [] ys f g = g
every_append P (x ∷ xs) ys f g = (f.0, every_append P xs ys f.1 g)

pub every_front : {A : Type 0} (P : A → Type 0) (xs ys : List A) → Every P (xs ++ ys) → Every P xs
every_front P [] ys h = tt
every_front P (x ∷ xs) ys h = (h.0, every_front P xs ys h.1)

pub every_copy : {A : Type 0} (P : A → Type 0) (n : ℕ) (x : A) → P x → Every P (replicate n x)
every_copy P zero x h = tt
every_copy P (suc n) x h = (h, every_copy P n x h)

pub every_same : {A : Type 0} (P Q : A → Type 0) → ((x : A) → P x → Q x) → (xs : List A) → Every P xs → Every Q xs
every_same P Q f [] h = tt
every_same P Q f (x ∷ xs) h = (f x h.0, every_same P Q f xs h.1)

-- an item more
pub all_more : {A : Type 0} (P : A → Type 0) (xs : List A) (i : ℕ) (x : A) → i < length xs → x ≡ get_or xs i x → All P (take i xs) → P x → All P (take (i + 1) xs)
all_more P xs i x inside is all h = All-more P xs i x inside all (subst P is h)
