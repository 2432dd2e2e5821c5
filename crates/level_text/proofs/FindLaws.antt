-- What looking a name up tells. (The same laws stand in policy_class, where they are private.)
use Rattle.std.proofs.Common.{◌≡◌, ℕ, ◌+◌, ◌<◌, List, [], ◌∷◌, ◌++◌, Bool, true, false, length, map, drop, get_or, refl, sym, ap, ◌∙◌, arith, cond, inl, inr, Some, None, append_assoc}
use Rattle.std.specs.Prelude.{◌||◌, not, nat_lt, position}
use Rattle.std.specs.List.{list_any, position_or_len}
use Rattle.std.proofs.lemmas.Bool.{cases_Bool, true≢false, lt-ltb, le-ltb}
use Rattle.std.proofs.lemmas.List.{at_drop_more}
use Rattle.std.proofs.lemmas.List.Quantifiers.{position-Some}
use Rattle.level_text.specs.declared.text.NamedAt.{NamedAt}

module _ {X : Type 0} (p : X → Bool) where
  pub absent : (xs : List X) → list_any p xs ≡ false → position_or_len p xs ≡ length xs
  absent [] h = refl
  absent (x ∷ xs) h = go (λ k. absent xs k) (p x) h
    where
      go : (list_any p xs ≡ false → position_or_len p xs ≡ length xs) → (b : Bool) → (b || list_any p xs) ≡ false
          → cond (not b) (1 + position_or_len p xs) 0 ≡ length (x ∷ xs)
      go rest true h = absurd (true≢false h)
      go rest false h = omega (arith, rest h)

  pub present : (xs : List X) → list_any p xs ≡ true → position_or_len p xs < length xs
  present [] h = absurd (true≢false (sym h))
  present (x ∷ xs) h = go (λ k. present xs k) (p x) h
    where
      go : (list_any p xs ≡ true → position_or_len p xs < length xs) → (b : Bool) → (b || list_any p xs) ≡ true
          → cond (not b) (1 + position_or_len p xs) 0 < length (x ∷ xs)
      go rest true h = omega arith
      go rest false h = omega (arith, rest h)

  -- one that passes in a first list is the first of both
  pub front : (xs ys : List X) → list_any p xs ≡ true → position_or_len p (xs ++ ys) ≡ position_or_len p xs
  front [] ys h = absurd (true≢false (sym h))
  front (x ∷ xs) ys h = go (λ k. front xs ys k) (p x) h
    where
      go : (list_any p xs ≡ true → position_or_len p (xs ++ ys) ≡ position_or_len p xs) → (b : Bool) → (b || list_any p xs) ≡ true
          → cond (not b) (1 + position_or_len p (xs ++ ys)) 0 ≡ cond (not b) (1 + position_or_len p xs) 0
      go rest true h = refl
      go rest false h = ap (λ n. 1 + n) (rest h)

  is_inside : (xs : List X) → nat_lt (position_or_len p xs) (length xs) ≡ list_any p xs
  is_inside xs = elim (cases_Bool (list_any p xs)) [
    | inl h ↦ lt-ltb (position_or_len p xs) (length xs) (present xs h) ∙ sym h
    | inr h ↦ le-ltb (position_or_len p xs) (length xs) (omega (arith, absent xs h)) ∙ sym h
  ]

  position_is : (xs : List X) → position p xs ≡ cond (list_any p xs) (Some (position_or_len p xs)) None
  position_is xs = ap (λ b. cond b (Some (position_or_len p xs)) None) (is_inside xs)

  -- what stands at the position passes
  pub found_position : (xs : List X) (d : X) → list_any p xs ≡ true → p (get_or xs (position_or_len p xs) d) ≡ true
  found_position xs d h = (position-Some p xs (position_or_len p xs) d (position_is xs ∙ ap (λ b. cond b (Some (position_or_len p xs)) None) h)).1

  pub found_among : (xs : List X) (i : ℕ) → Some i ≡ position p xs → list_any p xs ≡ true
  found_among xs i h = by (list_any p xs) (h ∙ position_is xs)
    where
      by : (b : Bool) → Some i ≡ cond b (Some (position_or_len p xs)) None → b ≡ true
      by true e = refl
      by false e = cc

  pub missing_among : (xs : List X) → None ≡ position p xs → list_any p xs ≡ false
  missing_among xs h = by (list_any p xs) (h ∙ position_is xs)
    where
      by : (b : Bool) → None ≡ cond b (Some (position_or_len p xs)) None → b ≡ false
      by true e = cc
      by false e = refl

-- one more item of a list that is made of another
pub push_step : {X A B : Type 0} (f : A → B) (view : X → A) (xs : List X) (i : ℕ) (x d : X) (made new : List B) (y : B) → i < length xs → x ≡ get_or xs i d → y ≡ f (view x) → new ≡ made ++ y ∷ []
    → new ++ map f (map view (drop (i + 1) xs)) ≡ made ++ map f (map view (drop i xs))
push_step f view xs i x d made new y h e g a =
    let rest = map f (map view (drop (i + 1) xs)) in
    ap (λ ys. ys ++ rest) a ∙ append_assoc made (y ∷ []) rest ∙ ap (λ z. made ++ z ∷ rest) (g ∙ ap (λ w. f (view w)) e)
    ∙ sym (at_drop_more (λ ys. made ++ map f (map view ys)) xs i d h)

-- one more name by its number
pub name_step : {B : Type 0} (f : List ℕ → B) (names : List (List ℕ)) (i : ℕ) (name : List ℕ) (made new : List B) (y : B) → i < length names → get_or names i name ≡ name → y ≡ f name → new ≡ made ++ y ∷ []
    → new ++ map f (drop (i + 1) names) ≡ made ++ map f (drop i names)
name_step f names i name made new y h e g a =
    let rest = map f (drop (i + 1) names) in
    ap (λ ys. ys ++ rest) a ∙ append_assoc made (y ∷ []) rest ∙ ap (λ z. made ++ z ∷ rest) (g ∙ ap f (sym e))
    ∙ sym (at_drop_more (λ ys. made ++ map f ys) names i name h)

-- past the end of a list of names
abbrev pub no_name : NamedAt
no_name = record { name = 0; at = 0 }
