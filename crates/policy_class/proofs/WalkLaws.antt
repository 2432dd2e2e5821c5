-- Lists of which the items are changed one after another.
use Rattle.std.proofs.Common.{◌≡◌, ℕ, zero, suc, ◌+◌, ◌<◌, ◌≤◌, List, [], ◌∷◌, ◌++◌, length, map, take, drop, set, get_or, refl, ap, sym, ◌∙◌, subst, arith, add-one, append-nil, All}
use Rattle.std.proofs.lemmas.List.{drop_all, length-map, take_all, take_more_set}
use Rattle.std.proofs.lemmas.List.Elements.{All-nil, All-push, All-map}
use Rattle.cov_expr.specs.Lends.{refilled}
use Rattle.cov_expr.proofs.Lists.{refilled_whole}

module _ {X Y : Type 0} (v : X → Y) (f : Y → Y) (W : Y → Type 0) where
  -- items as they are seen: those before an index are changed, the others are still to be changed
  mixed : ℕ → List X → List Y
  mixed i xs = map v (take i xs) ++ map f (map v (drop i xs))

  -- How far a walk has come: each item before an index is what it is to be, and of words; those from there on are as they were.
  pub record Walked (old xs : List X) (i : ℕ) : Type 0 where
    changed : mixed i xs ≡ map f (map v old)
    words : All (λ x. W (v x)) (take i xs)

  pub walked_none : (xs : List X) → Walked xs xs 0
  unfolding mixed
  walked_none xs = record { changed = refl; words = All-nil (λ x. W (v x)) }

  next : (xs : List X) (i : ℕ) (d y : X) → i < length xs → v y ≡ f (v (get_or xs i d)) → mixed (suc i) (set xs i y) ≡ mixed i xs
  unfolding mixed
  next [] i d y inside is = absurd (omega (arith, inside))
  next (x ∷ xs) zero d y inside is = λ j. is j ∷ map f (map v xs)
  next (x ∷ xs) (suc i) d y inside is = ap (◌∷◌ (v x)) (next xs i d y (omega (arith, inside)) is)

  pub walked_more : (old xs : List X) (i : ℕ) (d y : X) → i < length xs → v y ≡ f (v (get_or xs i d)) → W (v y)
      → Walked old xs i → Walked old (set xs i y) (i + 1)
  walked_more old xs i d y inside is words h = record {
    changed = ap (λ n. mixed n (set xs i y)) (add-one i) ∙ next xs i d y inside is ∙ h.changed;
    words = subst (All (λ x. W (v x))) (sym (take_more_set xs i y inside)) (All-push (λ x. W (v x)) (take i xs) y h.words words);
  }

  pub walked_all : (old xs : List X) (i : ℕ) → length xs ≤ i → Walked old xs i → (map v xs ≡ map f (map v old)) × All W (map v xs)
  unfolding mixed
  walked_all old xs i past h = (
    sym (append-nil (map v xs)) ∙ (λ j. map v (sym (take_all i xs past) j) ++ map f (map v (sym (drop_all i xs past) j))) ∙ h.changed,
    All-map W v xs (subst (All (λ x. W (v x))) (take_all i xs past) h.words),
  )

  -- A list that lent its items has those that came back.
  came_back : (items lent given : List X) → lent ≡ items → map v given ≡ map f (map v lent) → refilled items given ≡ given
  came_back items lent given same changed =
      refilled_whole items given
      (sym (length-map given v) ∙ ap length changed ∙ length-map (map v lent) f ∙ length-map lent v ∙ ap length same)

  pub lent_changed : (items lent given : List X) → lent ≡ items → map v given ≡ map f (map v lent) → map v (refilled items given) ≡ map f (map v items)
  lent_changed items lent given same changed =
      ap (map v) (came_back items lent given same changed) ∙ changed ∙ ap (λ xs. map f (map v xs)) same

  pub lent_words : (items lent given : List X) → lent ≡ items → map v given ≡ map f (map v lent) → All W (map v given) → All W (map v (refilled items given))
  lent_words items lent given same changed words = subst (λ xs. All W (map v xs)) (sym (came_back items lent given same changed)) words
