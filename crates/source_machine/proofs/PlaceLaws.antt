-- Where the places of a body differ, the place at which a thread stands tells all that remains of it.
use Rattle.std.proofs.Common.{◌≡◌, inl, inr, ℕ, ◌==◌, not, List, [], ◌∷◌, ◌++◌, refl, ap, sym, ◌∙◌, subst, Bool, true, false, Some, eq-eqb, eqb-true}
use Rattle.std.specs.List.{list_any}
use Rattle.std.proofs.lemmas.Bool.{and_parts, and_from, or_cases, or_left, or_right, not-true, not_from_false, false_from_ne_true}
use Rattle.cov_ast.specs.Syntax.{Stm, Block, done, more}
use Rattle.cov_ast.specs.Syntax as s
use Rattle.cov_ast.specs.WellFormed.{are_distinct, places, places_within}
use Rattle.flow_model.specs.Source.{Item, first_place}
use Rattle.source_machine.specs.Inside.Standing.{IsAtStm, IsPart}

-- Numbers that differ ----------------------------------------------------------------------------------------------

abbrev among : List ℕ → ℕ → Bool
among xs q = list_any (◌==◌ q) xs

abbrev differ : List ℕ → Bool
differ xs = are_distinct (◌==◌) xs

true_and_false : {b : Bool} → b ≡ true → b ≡ false → ⊥
true_and_false x y = let e : true ≡ false = sym x ∙ y in cc

among_left : (xs ys : List ℕ) (q : ℕ) → among xs q ≡ true → among (xs ++ ys) q ≡ true
among_left [] ys q h = absurd cc
among_left (x ∷ xs) ys q h =
    elim (or_cases (q == x) (among xs q) h) [
      | inl here ↦ or_left (q == x) (among (xs ++ ys) q) here
      | inr later ↦ or_right (q == x) (among (xs ++ ys) q) (among_left xs ys q later)
    ]

among_right : (xs ys : List ℕ) (q : ℕ) → among ys q ≡ true → among (xs ++ ys) q ≡ true
among_right [] ys q h = h
among_right (x ∷ xs) ys q h = or_right (q == x) (among (xs ++ ys) q) (among_right xs ys q h)

differ_right : (xs ys : List ℕ) → differ (xs ++ ys) ≡ true → differ ys ≡ true
differ_right [] ys h = h
differ_right (x ∷ xs) ys h = differ_right xs ys (and_parts (not (among (xs ++ ys) x)) (differ (xs ++ ys)) h).1

differ_left : (xs ys : List ℕ) → differ (xs ++ ys) ≡ true → differ xs ≡ true
differ_left [] ys h = refl
differ_left (x ∷ xs) ys h =
    let both = and_parts (not (among (xs ++ ys) x)) (differ (xs ++ ys)) h in
    and_from (not (among xs x)) (differ xs)
    (not_from_false (among xs x) (false_from_ne_true (among xs x) (λ e. true_and_false (among_left xs ys x e) (not-true (among (xs ++ ys) x) both.0))))
    (differ_left xs ys both.1)

apart : (xs ys : List ℕ) (q : ℕ) → differ (xs ++ ys) ≡ true → among xs q ≡ true → among ys q ≡ true → ⊥
apart [] ys q h a b = let e : false ≡ true = a in cc
apart (x ∷ xs) ys q h a b =
    let both = and_parts (not (among (xs ++ ys) x)) (differ (xs ++ ys)) h in
    elim (or_cases (q == x) (among xs q) a) [
      | inl here ↦ true_and_false (among_right xs ys x (subst (λ z. among ys z ≡ true) (eqb-true q x here) b)) (not-true (among (xs ++ ys) x) both.0)
      | inr later ↦ apart xs ys q both.1 later b
    ]

-- Places -----------------------------------------------------------------------------------------------------------

-- the first of the items has one of these places
abbrev HasPlace : List ℕ → List Item → Type 0
HasPlace ps is = (a : ℕ) × (first_place is ≡ Some a) × (among ps a ≡ true)

same_some : {a b : ℕ} → Some a ≡ Some b → a ≡ b
same_some e = cc

clash : (xs ys : List ℕ) (is js : List Item) → differ (xs ++ ys) ≡ true → HasPlace xs is → HasPlace ys js → first_place is ≡ first_place js → ⊥
clash xs ys is js d p q e =
    apart xs ys p.0 d p.2 (subst (λ z. among ys z ≡ true) (same_some (sym q.1 ∙ sym e ∙ p.1)) q.2)

here : (at : ℕ) (ps : List ℕ) (is : List Item) → first_place is ≡ Some at → HasPlace (at ∷ ps) is
here at ps is e = (at, e, or_left (at == at) (among ps at) (eq-eqb at at refl))

left : (xs ys : List ℕ) (is : List Item) → HasPlace xs is → HasPlace (xs ++ ys) is
left xs ys is p = (p.0, p.1, among_left xs ys p.0 p.2)

right : (xs ys : List ℕ) (is : List Item) → HasPlace ys is → HasPlace (xs ++ ys) is
right xs ys is p = (p.0, p.1, among_right xs ys p.0 p.2)

mutual
  stm_place : (c : Stm) (at : ℕ) (after is : List Item) → IsAtStm c at after is → HasPlace (at ∷ places_within c) is
  stm_place (s.branch e x y join) at after is (inl h) = here at (places x ++ places y) is (ap first_place h)
  stm_place (s.branch e x y join) at after is (inr (inl h)) = right (at ∷ []) (places x ++ places y) is (left (places x) (places y) is (part_place x after is h))
  stm_place (s.branch e x y join) at after is (inr (inr h)) = right (at ∷ []) (places x ++ places y) is (right (places x) (places y) is (part_place y after is h))
  stm_place (s.loop e inv x) at after is (inl h) = here at (places x) is (ap first_place h)
  stm_place (s.loop e inv x) at after is (inr h) = right (at ∷ []) (places x) is (part_place x _ is h)
  stm_place (s.note j) at after is h = absurd h
  stm_place _ at after is h = here at [] is (ap first_place h)

  part_place : (b : Block) (after is : List Item) → IsPart b after is → HasPlace (places b) is
  part_place done after is h = absurd h
  part_place (more at c proofs b) after is (inl h) = left (at ∷ places_within c) (places b) is (stm_place c at _ is h)
  part_place (more at c proofs b) after is (inr h) = right (at ∷ places_within c) (places b) is (part_place b after is h)

mutual
  same_stm : (c : Stm) (at : ℕ) (after is js : List Item) → differ (at ∷ places_within c) ≡ true → IsAtStm c at after is → IsAtStm c at after js
      → first_place is ≡ first_place js → is ≡ js
  same_stm (s.branch v x y join) at after is js d (inl h) (inl k) e = h ∙ sym k
  same_stm (s.branch v x y join) at after is js d (inl h) (inr (inl k)) e =
      absurd (clash (at ∷ []) (places x ++ places y) is js d (here at [] is (ap first_place h)) (left (places x) (places y) js (part_place x after js k)) e)
  same_stm (s.branch v x y join) at after is js d (inl h) (inr (inr k)) e =
      absurd (clash (at ∷ []) (places x ++ places y) is js d (here at [] is (ap first_place h)) (right (places x) (places y) js (part_place y after js k)) e)
  same_stm (s.branch v x y join) at after is js d (inr (inl h)) (inl k) e =
      absurd (clash (at ∷ []) (places x ++ places y) js is d (here at [] js (ap first_place k)) (left (places x) (places y) is (part_place x after is h)) (sym e))
  same_stm (s.branch v x y join) at after is js d (inr (inr h)) (inl k) e =
      absurd (clash (at ∷ []) (places x ++ places y) js is d (here at [] js (ap first_place k)) (right (places x) (places y) is (part_place y after is h)) (sym e))
  same_stm (s.branch v x y join) at after is js d (inr (inl h)) (inr (inl k)) e =
      same_part x after is js (differ_left (places x) (places y) (differ_right (at ∷ []) (places x ++ places y) d)) h k e
  same_stm (s.branch v x y join) at after is js d (inr (inr h)) (inr (inr k)) e =
      same_part y after is js (differ_right (places x) (places y) (differ_right (at ∷ []) (places x ++ places y) d)) h k e
  same_stm (s.branch v x y join) at after is js d (inr (inl h)) (inr (inr k)) e =
      absurd (clash (places x) (places y) is js (differ_right (at ∷ []) (places x ++ places y) d) (part_place x after is h) (part_place y after js k) e)
  same_stm (s.branch v x y join) at after is js d (inr (inr h)) (inr (inl k)) e =
      absurd (clash (places x) (places y) js is (differ_right (at ∷ []) (places x ++ places y) d) (part_place x after js k) (part_place y after is h) (sym e))
  same_stm (s.loop v inv x) at after is js d (inl h) (inl k) e = h ∙ sym k
  same_stm (s.loop v inv x) at after is js d (inl h) (inr k) e =
      absurd (clash (at ∷ []) (places x) is js d (here at [] is (ap first_place h)) (part_place x _ js k) e)
  same_stm (s.loop v inv x) at after is js d (inr h) (inl k) e =
      absurd (clash (at ∷ []) (places x) js is d (here at [] js (ap first_place k)) (part_place x _ is h) (sym e))
  same_stm (s.loop v inv x) at after is js d (inr h) (inr k) e = same_part x _ is js (differ_right (at ∷ []) (places x) d) h k e
  same_stm (s.note j) at after is js d h k e = absurd h
  same_stm _ at after is js d h k e = h ∙ sym k

  pub same_part : (b : Block) (after is js : List Item) → differ (places b) ≡ true → IsPart b after is → IsPart b after js → first_place is ≡ first_place js → is ≡ js
  same_part done after is js d h k e = absurd h
  same_part (more at c proofs b) after is js d (inl h) (inl k) e = same_stm c at _ is js (differ_left (at ∷ places_within c) (places b) d) h k e
  same_part (more at c proofs b) after is js d (inl h) (inr k) e =
      absurd (clash (at ∷ places_within c) (places b) is js d (stm_place c at _ is h) (part_place b after js k) e)
  same_part (more at c proofs b) after is js d (inr h) (inl k) e =
      absurd (clash (at ∷ places_within c) (places b) js is d (stm_place c at _ js k) (part_place b after is h) (sym e))
  same_part (more at c proofs b) after is js d (inr h) (inr k) e = same_part b after is js (differ_right (at ∷ places_within c) (places b) d) h k e
