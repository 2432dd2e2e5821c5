-- The next item of a list that is gone through.
use Rattle.std.proofs.Common.{◌≡◌, ℕ, suc, ◌+◌, ◌<◌, List, ◌∷◌, map, drop, get_or, length, sym, ap, ◌∙◌, add-one}
use Rattle.std.proofs.Math.Seq.{drop-cons}

pub item_ahead : {X A : Type 0} (f : X → A) (xs : List X) (i : ℕ) (x d : X) → i < length xs → x ≡ get_or xs i d → map f (drop i xs) ≡ f x ∷ map f (drop (i + 1) xs)
item_ahead f xs i x d h e = ap (map f) (drop-cons xs i d h) ∙ ap (λ y. f y ∷ map f (drop (suc i) xs)) (sym e) ∙ ap (λ n. f x ∷ map f (drop n xs)) (sym (add-one i))
