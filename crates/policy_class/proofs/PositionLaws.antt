-- Where a list has its first item that passes a test.
use Rattle.std.proofs.Common.{◌≡◌, ◌+◌, ◌<◌, ◌≤◌, List, [], ◌∷◌, ◌++◌, Bool, true, false, length, refl, sym, ap, ◌∙◌, arith, cond, inl, inr}
use Rattle.std.specs.Prelude.{◌||◌, not, nat_lt}
use Rattle.std.specs.List.{list_any, position_or_len}
use Rattle.std.proofs.lemmas.Bool.{cases_Bool, true≢false, lt-ltb, le-ltb}

module _ {X : Type 0} (p : X → Bool) where
  -- behind the last where none passes
  pub absent : (xs : List X) → list_any p xs ≡ false → position_or_len p xs ≡ length xs
  absent [] h = refl
  absent (x ∷ xs) h = go (λ k. absent xs k) (p x) h
    where
      go : (list_any p xs ≡ false → position_or_len p xs ≡ length xs) → (b : Bool) → (b || list_any p xs) ≡ false
          → cond (not b) (1 + position_or_len p xs) 0 ≡ length (x ∷ xs)
      go rest true h = absurd (true≢false h)
      go rest false h = omega (arith, rest h)

  pub present : (xs : List X) → list_any p xs ≡ true → position_or_len p xs < length xs
  present [] h = absurd (true≢false (sym h))
  present (x ∷ xs) h = go (λ k. present xs k) (p x) h
    where
      go : (list_any p xs ≡ true → position_or_len p xs < length xs) → (b : Bool) → (b || list_any p xs) ≡ true
          → cond (not b) (1 + position_or_len p xs) 0 < length (x ∷ xs)
      go rest true h = omega arith
      go rest false h = omega (arith, rest h)

  -- one that passes in a first list is the first of both
  pub front : (xs ys : List X) → list_any p xs ≡ true → position_or_len p (xs ++ ys) ≡ position_or_len p xs
  front [] ys h = absurd (true≢false (sym h))
  front (x ∷ xs) ys h = go (λ k. front xs ys k) (p x) h
    where
      go : (list_any p xs ≡ true → position_or_len p (xs ++ ys) ≡ position_or_len p xs) → (b : Bool) → (b || list_any p xs) ≡ true
          → cond (not b) (1 + position_or_len p (xs ++ ys)) 0 ≡ cond (not b) (1 + position_or_len p xs) 0
      go rest true h = refl
      go rest false h = ap (λ n. 1 + n) (rest h)

  -- else the first of the second list is
  pub position_in_rest : (xs ys : List X) → list_any p xs ≡ false → position_or_len p (xs ++ ys) ≡ length xs + position_or_len p ys
  position_in_rest [] ys h = omega arith
  position_in_rest (x ∷ xs) ys h = go (λ k. position_in_rest xs ys k) (p x) h
    where
      go : (list_any p xs ≡ false → position_or_len p (xs ++ ys) ≡ length xs + position_or_len p ys) → (b : Bool) → (b || list_any p xs) ≡ false
          → cond (not b) (1 + position_or_len p (xs ++ ys)) 0 ≡ length (x ∷ xs) + position_or_len p ys
      go rest true h = absurd (true≢false h)
      go rest false h = omega (arith, rest h)

  -- whether the position is one of the list
  pub is_inside : (xs : List X) → nat_lt (position_or_len p xs) (length xs) ≡ list_any p xs
  is_inside xs = elim (cases_Bool (list_any p xs)) [
    | inl h ↦ lt-ltb (position_or_len p xs) (length xs) (present xs h) ∙ sym h
    | inr h ↦ le-ltb (position_or_len p xs) (length xs) (omega (arith, absent xs h)) ∙ sym h
  ]

  -- from the position in both lists: within the first list, and past it
  pub among_first : (xs ys : List X) → position_or_len p (xs ++ ys) < length xs → list_any p xs ≡ true
  among_first xs ys h = elim (cases_Bool (list_any p xs)) [ inl a ↦ a | inr a ↦ absurd (omega (arith, position_in_rest xs ys a)) ]

  pub not_among_first : (xs ys : List X) → length xs ≤ position_or_len p (xs ++ ys) → list_any p xs ≡ false
  not_among_first xs ys h = elim (cases_Bool (list_any p xs)) [ inl a ↦ absurd (omega (arith, front xs ys a, present xs a)) | inr a ↦ a ]

  pub position_inside : (xs ys : List X) → position_or_len p (xs ++ ys) < length xs → position_or_len p (xs ++ ys) ≡ position_or_len p xs
  position_inside xs ys h = front xs ys (among_first xs ys h)

  pub position_outside : (xs ys : List X) → length xs ≤ position_or_len p (xs ++ ys) → length xs ≡ position_or_len p xs
  position_outside xs ys h = sym (absent xs (not_among_first xs ys h))

  pub position_behind : (xs ys : List X) → length xs ≤ position_or_len p (xs ++ ys) → position_or_len p (xs ++ ys) ≡ length xs + position_or_len p ys
  position_behind xs ys h = position_in_rest xs ys (not_among_first xs ys h)
