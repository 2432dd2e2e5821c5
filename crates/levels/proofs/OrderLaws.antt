-- The rows of levels say which level lies at or below which.
use Rattle.std.proofs.Common.{◌≡◌, ℕ, zero, suc, ◌+◌, ◌<◌, ◌≤◌, ◌==◌, ◌||◌, List, [], ◌∷◌, ◌++◌, length, get_or, take, Bool, true, false, true≢false, refl, sym, ap, subst, ◌∙◌, arith, inl, inr, All, IsTrue, ◌↔◌}
use Rattle.std.specs.List.{Contains, list_any}
use Rattle.std.proofs.lemmas.List.{take_all, take-take, take_at, get_or-take, get_or_push, get_or_past, length_push, length-take-le}
use Rattle.std.proofs.lemmas.List.Elements.{All-contains}
use Rattle.std.proofs.lemmas.List.Folds.{list_any_at}
use Rattle.std.proofs.lemmas.Bool.{cases_lt, or_cases, or_left, or_right, eq-eqb, eqb-true}
use Rattle.cov_ast.specs.Tables.{has}
use Rattle.cov_ast.proofs.TableLaws.{table_at, table_length}
use Rattle.level_text.specs.Lattice.{Levels}
use Rattle.levels.specs.Order.{IsBelow, itself, pair, onward, is_in_row, next_row, rows_onto, rows_of, seen_by}
use Rattle.level_text.specs.Lattice.{AreLevels}

-- Lists ---------------------------------------------------------------------------------------------------------

any_found : {X : Type 0} (p : X → Bool) (xs : List X) → list_any p xs ≡ true → (x : X) × Contains xs x × (p x ≡ true)
any_found p [] h = absurd (true≢false (sym h))
any_found p (x ∷ xs) h = elim (or_cases (p x) (list_any p xs) h) [
  | inl e ↦ (x, (0, omega arith, refl), e)
  | inr r ↦ let f = any_found p xs r in (f.0, (suc f.1.0, (let lt = f.1.1 in omega arith), f.1.2), f.2)
]

any_holds : {X : Type 0} (p : X → Bool) (xs : List X) (x : X) → Contains xs x → p x ≡ true → list_any p xs ≡ true
any_holds p xs x at h = list_any_at p xs at.0 x at.1 (ap p at.2 ∙ h)

-- Rows ----------------------------------------------------------------------------------------------------------

module _ (count : ℕ) where
  -- rows that are there stay
  kept : (rows : List (List Bool)) (rest : List (List ℕ)) → take (length rows) (rows_onto count rows rest) ≡ rows
  kept rows [] = take_all (length rows) rows (omega arith)
  kept rows (lower ∷ rest) =
      let more = rows ++ next_row count rows lower ∷ [] in
      let long : length more ≡ length rows + 1 = length_push rows (next_row count rows lower) in
      let all = rows_onto count more rest in
      sym (take-take (length rows) (length more) all (omega arith))
      ∙ ap (take (length rows)) (kept more rest)
      ∙ take_at rows (next_row count rows lower ∷ []) (length rows) refl

  long_onto : (rows : List (List Bool)) (rest : List (List ℕ)) → length (rows_onto count rows rest) ≡ length rows + length rest
  long_onto rows [] = omega arith
  long_onto rows (lower ∷ rest) =
      let more = rows ++ next_row count rows lower ∷ [] in
      let long : length more ≡ length rows + 1 = length_push rows (next_row count rows lower) in
      let all = long_onto more rest in
      omega arith

  -- each further row is the next one of those in front of it
  row_onto : (rows : List (List Bool)) (rest : List (List ℕ)) (i : ℕ) → i < length rest
      → get_or (rows_onto count rows rest) (length rows + i) [] ≡ next_row count (take (length rows + i) (rows_onto count rows rest)) (get_or rest i [])
  row_onto rows [] i h = absurd (omega arith)
  row_onto rows (lower ∷ rest) zero h =
      let row = next_row count rows lower in
      let more = rows ++ row ∷ [] in
      let long : length more ≡ length rows + 1 = length_push rows row in
      let all = rows_onto count more rest in
      let none : length rows + 0 ≡ length rows = omega arith in
      ap (λ k. get_or all k []) none
      ∙ sym (get_or-take (length more) all (length rows) [] (omega arith))
      ∙ ap (λ xs. get_or xs (length rows) []) (kept more rest)
      ∙ get_or_push rows row [] (length rows) refl
      ∙ ap (λ xs. next_row count xs lower) (sym (kept rows (lower ∷ rest)) ∙ ap (λ k. take k all) (sym none))
  row_onto rows (lower ∷ rest) (suc i) h =
      let row = next_row count rows lower in
      let more = rows ++ row ∷ [] in
      let long : length more + i ≡ length rows + suc i = omega (arith, length_push rows row) in
      let all = rows_onto count more rest in
      subst (λ k. get_or all k [] ≡ next_row count (take k all) (get_or rest i [])) long (row_onto more rest i (omega arith))

-- The order -----------------------------------------------------------------------------------------------------

module _ (below : List (List ℕ)) (earlier : (b : ℕ) → All (λ a. a < b) (get_or below b [])) where
  abbrev count : ℕ
  count = length below

  abbrev rows : List (List Bool)
  rows = rows_onto count [] below

  abbrev under : (a b : ℕ) → Bool
  under a b = is_in_row rows a b

  lower_less : (a b : ℕ) → Contains (get_or below b []) a → a < b
  lower_less a b h = All-contains (λ x. x < b) (get_or below b []) a (earlier b) h

  none_lower : (a b : ℕ) → count ≤ b → Contains (get_or below b []) a → ⊥
  none_lower a b past h =
      let none : get_or below b [] ≡ [] = get_or_past below b [] past in
      let at : Contains [] a = subst (λ xs. Contains xs a) none h in
      let no = at.1 in omega arith

  row_is : (b : ℕ) → b < count → get_or rows b [] ≡ next_row count (take b rows) (get_or below b [])
  row_is b h =
      let same : 0 + b ≡ b = omega arith in
      subst (λ k. get_or rows k [] ≡ next_row count (take k rows) (get_or below b [])) same (row_onto count [] below b h)

  long_front : (b : ℕ) → b < count → length (take b rows) ≡ b
  long_front b h = let long = long_onto count [] below in length-take-le b rows (omega arith)

  -- what a row says of a level
  under_is : (a b : ℕ) → a < count → b < count → under a b ≡ (a == b || list_any (is_in_row (take b rows) a) (get_or below b []))
  under_is a b ha hb =
      ap (λ row. has row a) (row_is b hb)
      ∙ table_at count (λ x. x == length (take b rows) || list_any (is_in_row (take b rows) x) (get_or below b [])) a ha
      ∙ ap (λ k. a == k || list_any (is_in_row (take b rows) a) (get_or below b [])) (long_front b hb)

  -- a row of those in front is that row
  front_is : (a b c : ℕ) → c < b → is_in_row (take b rows) a c ≡ under a c
  front_is a b c h = ap (λ row. has row a) (get_or-take b rows c [] h)

  under_within : (a b : ℕ) → b < count → under a b ≡ true → a < count
  under_within a b hb h = elim (cases_lt a count) [
    | inl lt ↦ lt
    | inr ge ↦
        let row = next_row count (take b rows) (get_or below b []) in
        let past : has row a ≡ false =
        get_or_past row a false (omega (arith, ge, table_length count (λ x. x == length (take b rows) || list_any (is_in_row (take b rows) x) (get_or below b [])))) in
        absurd (true≢false (sym h ∙ ap (λ r. has r a) (row_is b hb) ∙ past))
  ]

  -- a level of which a row says so lies below
  sound : (k a b : ℕ) → b < k → b < count → under a b ≡ true → IsBelow below a b
  sound zero a b lt hb h = absurd (omega arith)
  sound (suc k) a b lt hb h =
      let ha = under_within a b hb h in
      elim (or_cases (a == b) (list_any (is_in_row (take b rows) a) (get_or below b [])) (sym (under_is a b ha hb) ∙ h)) [
        | inl e ↦ subst (IsBelow below a) (eqb-true a b e) (itself a)
        | inr any ↦
            let f = any_found (is_in_row (take b rows) a) (get_or below b []) any in
            let less = lower_less f.0 b f.1 in
            onward a f.0 b (sound k a f.0 (omega arith) (omega arith) (sym (front_is a b f.0 less) ∙ f.2)) (pair f.0 b f.1)
      ]

  -- an equal level
  under_itself : (a : ℕ) → a < count → under a a ≡ true
  under_itself a h = under_is a a h h ∙ or_left (a == a) _ (eq-eqb a a refl)

  -- what lies under a level that a level is declared above
  under_lower : (a b c : ℕ) → a < count → c < count → Contains (get_or below c []) b → under a b ≡ true → under a c ≡ true
  under_lower a b c ha hc at h =
      let less = lower_less b c at in
      under_is a c ha hc
      ∙ or_right (a == c) _ (any_holds (is_in_row (take c rows) a) (get_or below c []) b at (front_is a c b less ∙ h))

  under_onward : (k a b c : ℕ) → c < k → c < count → b < count → under a b ≡ true → under b c ≡ true → under a c ≡ true
  under_onward zero a b c lt hc hb h g = absurd (omega arith)
  under_onward (suc k) a b c lt hc hb h g =
      let ha = under_within a b hb h in
      elim (or_cases (b == c) (list_any (is_in_row (take c rows) b) (get_or below c [])) (sym (under_is b c hb hc) ∙ g)) [
        | inl e ↦ subst (λ x. under a x ≡ true) (eqb-true b c e) h
        | inr any ↦
            let f = any_found (is_in_row (take c rows) b) (get_or below c []) any in
            let less = lower_less f.0 c f.1 in
            under_lower a f.0 c ha hc f.1 (under_onward k a b f.0 (omega arith) (omega arith) hb h (sym (front_is b c f.0 less) ∙ f.2))
      ]

  no_higher : {a b : ℕ} → IsBelow below a b → a ≤ b
  no_higher (itself a) = omega arith
  no_higher (pair a b h) = let less = lower_less a b h in omega arith
  no_higher (onward a b c h g) = let first = no_higher h in let second = no_higher g in omega arith

  complete : {a b : ℕ} → IsBelow below a b → b < count → under a b ≡ true
  complete (itself a) lt = under_itself a lt
  complete (pair a b h) lt =
      let less = lower_less a b h in
      let inside : a < count = omega arith in
      under_lower a a b inside lt h (under_itself a inside)
  complete (onward a b c h g) lt =
      let le = no_higher g in
      let inside : b < count = omega arith in
      under_onward (suc c) a b c (omega arith) lt inside (complete h inside) (complete g lt)

  pub under_is_below : (a b : ℕ) → b < count → IsTrue (under a b) ↔ IsBelow below a b
  under_is_below a b lt = (sound (suc b) a b (omega arith) lt, λ h. complete h lt)

pub seen_is_below : (vars : ℕ) (l : Levels) → AreLevels vars l → (observer level : ℕ) → observer < length l.names
    → IsTrue (has (seen_by l observer) level) ↔ IsBelow l.below level observer
seen_is_below vars l h observer level lt =
    subst (λ n. IsTrue (has (get_or (rows_onto n [] l.below) observer []) level) ↔ IsBelow l.below level observer) h.complete
    (under_is_below l.below h.earlier level observer (let e = h.complete in omega arith))

-- there is a row for each level
pub rows_long : (vars : ℕ) (l : Levels) → AreLevels vars l → length (rows_of l) ≡ length l.names
rows_long vars l h = let e = h.complete in omega (arith, long_onto (length l.names) [] l.below)
