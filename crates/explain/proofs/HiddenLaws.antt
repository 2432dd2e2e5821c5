-- What is hidden in a text, one byte on.
use Rattle.std.proofs.Common.{◌≡◌, ◌≢◌, arith, ℕ, zero, suc, ◌+◌, ◌-◌, ◌<◌, List, [], ◌∷◌, ◌++◌, length, drop, Option, Some, None, true, false, true≢false, is_some, refl, sym, ap, ◌∙◌, append_assoc}
use Rattle.std.proofs.lemmas.List.{at_drop_more}
use Rattle.explain.specs.HiddenText.{at_front, at_place, hidden_from, listed}
use Rattle.explain.specs.Unused.{warned}
use Rattle.explain.specs.declared.warning.Warning.{Warning}
use Rattle.explain.specs.declared.warning.Cause.{Cause}
use Rattle.explain.specs.declared.warning.Cause.TheVariants as c

-- what is hidden from a place on: what stands there, and what is hidden behind it
hidden_at : (bs : List ℕ) (i : ℕ) → i < length bs → hidden_from i (drop i bs) ≡ at_place i (at_front (drop i bs)) ++ hidden_from (i + 1) (drop (i + 1) bs)
hidden_at bs i inside =
    at_drop_more (hidden_from i) bs i 0 inside ∙ ap (λ f. at_place i f ++ hidden_from (i + 1) (drop (i + 1) bs)) (sym (at_drop_more at_front bs i 0 inside))

pub none_hidden : (bs : List ℕ) (i : ℕ) → i < length bs → at_front (drop i bs) ≡ None → hidden_from i (drop i bs) ≡ hidden_from (i + 1) (drop (i + 1) bs)
none_hidden bs i inside none = hidden_at bs i inside ∙ ap (λ f. at_place i f ++ hidden_from (i + 1) (drop (i + 1) bs)) none

pub one_hidden : (bs : List ℕ) (i : ℕ) (cause : Cause) → i < length bs → at_front (drop i bs) ≡ Some cause
    → hidden_from i (drop i bs) ≡ warned i cause ∷ hidden_from (i + 1) (drop (i + 1) bs)
one_hidden bs i cause inside some = hidden_at bs i inside ∙ ap (λ f. at_place i f ++ hidden_from (i + 1) (drop (i + 1) bs)) some

-- the same of the number of them
pub count_none : (bs : List ℕ) (i : ℕ) → i < length bs → is_some (at_front (drop i bs)) ≡ false → length (hidden_from i (drop i bs)) ≡ length (hidden_from (i + 1) (drop (i + 1) bs))
count_none bs i inside none = ap length (hidden_at bs i inside) ∙ of_none (at_front (drop i bs)) none
  where
    of_none : (f : Option Cause) → is_some f ≡ false → length (at_place i f ++ hidden_from (i + 1) (drop (i + 1) bs)) ≡ length (hidden_from (i + 1) (drop (i + 1) bs))
    of_none None h = refl
    of_none (Some cause) h = absurd (true≢false h)

pub count_one : (bs : List ℕ) (i : ℕ) → i < length bs → is_some (at_front (drop i bs)) ≡ true → length (hidden_from i (drop i bs)) ≡ length (hidden_from (i + 1) (drop (i + 1) bs)) + 1
count_one bs i inside some = ap length (hidden_at bs i inside) ∙ of_some (at_front (drop i bs)) some
  where
    of_some : (f : Option Cause) → is_some f ≡ true → length (at_place i f ++ hidden_from (i + 1) (drop (i + 1) bs)) ≡ length (hidden_from (i + 1) (drop (i + 1) bs)) + 1
    of_some None h = absurd (true≢false (sym h))
    of_some (Some cause) h = omega arith

-- where there is room for one more, it is told
first_of_more : (room : ℕ) (w : Warning) (ws : List Warning) → room ≢ 0 → listed room (w ∷ ws) ≡ w ∷ listed (room - 1) ws
first_of_more zero w ws some = absurd (some refl)
first_of_more (suc room) w ws some = ap (λ r. w ∷ listed r ws) (omega arith)

module _ (bs : List ℕ) (i : ℕ) (found all : List Warning) (room : ℕ) (inside : i < length bs)
    (so_far : found ++ listed room (hidden_from i (drop i bs)) ≡ all) where
  pub goes_on_none : at_front (drop i bs) ≡ None → found ++ listed room (hidden_from (i + 1) (drop (i + 1) bs)) ≡ all
  goes_on_none none = ap (λ ws. found ++ listed room ws) (sym (none_hidden bs i inside none)) ∙ so_far

  module _ (cause : Cause) (some : at_front (drop i bs) ≡ Some cause) where
    pub goes_on_one : room ≢ 0 → (found ++ warned i cause ∷ []) ++ listed (room - 1) (hidden_from (i + 1) (drop (i + 1) bs)) ≡ all
    goes_on_one left =
        append_assoc found (warned i cause ∷ []) (listed (room - 1) (hidden_from (i + 1) (drop (i + 1) bs)))
        ∙ ap (λ ws. found ++ ws) (sym (first_of_more room (warned i cause) (hidden_from (i + 1) (drop (i + 1) bs)) left))
        ∙ ap (λ ws. found ++ listed room ws) (sym (one_hidden bs i cause inside some))
        ∙ so_far

    pub ends_more : (count : ℕ) → room ≡ 0 → count ≡ length (hidden_from i (drop i bs)) → found ++ warned i (c.More count) ∷ [] ≡ all
    ends_more count none is =
        ap (λ n. found ++ warned i (c.More n) ∷ []) (is ∙ ap length here)
        ∙ ap (λ ws. found ++ listed 0 ws) (sym here)
        ∙ ap (λ r. found ++ listed r (hidden_from i (drop i bs))) (sym none)
        ∙ so_far
      where
        here : hidden_from i (drop i bs) ≡ warned i cause ∷ hidden_from (i + 1) (drop (i + 1) bs)
        here = one_hidden bs i cause inside some
