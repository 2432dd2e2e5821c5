-- How the words of lines go on by one byte.
use Rattle.std.proofs.Common.{◌≡◌, ℕ, ◌+◌, ◌<◌, ◌≤◌, List, [], ◌∷◌, ◌++◌, length, reverse, take, drop, get_or, false, if◌then◌else◌, sym, ap, ◌∙◌, arith}
use Rattle.std.proofs.lemmas.Grind.{reverse_onto}
use Rattle.std.proofs.lemmas.List.{reverse-append, take_more, drop-append-le, length-take-le}
use Rattle.text_parts.specs.Lines.{to_feed, since_feed, is_feed}

-- behind a line feed nothing is left
since_at_feed : (xs : List ℕ) (b : ℕ) → b ≡ 10 → since_feed (xs ++ b ∷ []) ≡ []
since_at_feed xs b e = ap (λ ys. reverse (to_feed ys)) (reverse-append xs (b ∷ [])) ∙ ap (λ c. reverse (to_feed (c ∷ reverse xs))) e

-- another byte is one more
since_at_other : (xs : List ℕ) (b : ℕ) → is_feed b ≡ false → since_feed (xs ++ b ∷ []) ≡ since_feed xs ++ b ∷ []
since_at_other xs b e =
    ap (λ ys. reverse (to_feed ys)) (reverse-append xs (b ∷ []))
    ∙ ap (λ t. reverse (if t then [] else b ∷ to_feed (reverse xs))) e
    ∙ reverse_onto (to_feed (reverse xs)) b []

-- the same of the bytes up to a place
pub since_feed_more : (bs : List ℕ) (i b : ℕ) → i < length bs → get_or bs i b ≡ b → b ≡ 10 → since_feed (take (i + 1) bs) ≡ []
since_feed_more bs i b inside at e = ap since_feed (take_more bs i b inside ∙ ap (λ c. take i bs ++ c ∷ []) at) ∙ since_at_feed (take i bs) b e

pub since_other_more : (bs : List ℕ) (i start b : ℕ) → i < length bs → get_or bs i b ≡ b → is_feed b ≡ false → start ≤ i
    → since_feed (take i bs) ≡ drop start (take i bs) → since_feed (take (i + 1) bs) ≡ drop start (take (i + 1) bs)
since_other_more bs i start b inside at e within h =
    let more : take (i + 1) bs ≡ take i bs ++ b ∷ [] = take_more bs i b inside ∙ ap (λ c. take i bs ++ c ∷ []) at in
    let fits : start ≤ length (take i bs) = omega (arith, length-take-le i bs (omega (arith, inside))) in
    ap since_feed more ∙ since_at_other (take i bs) b e ∙ ap (λ ys. ys ++ b ∷ []) h ∙ sym (drop-append-le start (take i bs) (b ∷ []) fits)
    ∙ ap (drop start) (sym more)
