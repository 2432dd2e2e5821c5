-- Registers for the parts of expressions.
use Rattle.std.proofs.Common.{◌≡◌, ◌≢◌, ℕ, zero, suc, ◌+◌, ◌<◌, ◌≤◌, List, [], ◌∷◌, length, get_or, Bool, true, false, cond, Option, Some, None, is_none, is_some, IsSome, nat_le, refl, sym, ◌∙◌, ap, subst, arith}
use Rattle.std.specs.List.{All, AllPairs, filter}
use Rattle.std.specs.List.Sorted.{IsStrictlyIncreasing}
use Rattle.std.proofs.lemmas.Bool.{leb-true}
use Rattle.std.proofs.lemmas.List.Elements.{All-filter, All-from_get_or, filter_passes}
use Rattle.std.proofs.lemmas.List.FromFn.{get_or-range_with_len}
use Rattle.std.proofs.lemmas.List.Kept.{AllPairs-from_increasing, AllPairs-filter}
use Rattle.std.proofs.lemmas.Option.{slice_get_within, slice_get-get_or, get_or_from_slice_get}
use Rattle.regalloc.specs.Plan.{Plan, spoil, add_free, free_among, below_seven, frees, part, room_below, room}
use Rattle.regalloc.specs.PartRegisters.{IsForPart}

abbrev is_free : Plan → ℕ → Bool
is_free plan r = is_none (get_or plan r None)

add_where_free : (o : Option ℕ) (r : ℕ) (rs : List ℕ) → add_free o r rs ≡ cond (is_none o) (r ∷ rs) rs
add_where_free None r rs = refl
add_where_free (Some x) r rs = refl

free_among_passes : (plan : Plan) (rs : List ℕ) → free_among plan rs ≡ filter (is_free plan) rs
free_among_passes plan [] = refl
free_among_passes plan (r ∷ rs) = add_where_free (get_or plan r None) r (free_among plan rs) ∙ ap (λ rs. cond (is_free plan r) (r ∷ rs) rs) (free_among_passes plan rs)

frees_pass : (plan : Plan) → filter (is_free plan) below_seven ≡ frees plan
unfolding frees
frees_pass plan = sym (free_among_passes plan below_seven)

-- Each register is free, and for one part ------------------------------------------------------------------------

below_seven_low : All (λ r. r < 7) below_seven
below_seven_low = All-from_get_or (λ r. r < 7) below_seven 0 (λ i inside. let e = get_or-range_with_len 0 7 i 0 inside in omega (arith, e, inside))

below_seven_rises : IsStrictlyIncreasing below_seven
below_seven_rises k inside = let e = get_or-range_with_len 0 7 k 0 (omega arith) in let f = get_or-range_with_len 0 7 (k + 1) 0 inside in omega (arith, e, f)

none_is : (o : Option ℕ) → is_none o ≡ true → o ≡ None
none_is None e = refl
none_is (Some x) e = absurd cc

module _ (plan : Plan) where
  low : All (λ r. r < 7) (frees plan)
  low = subst (All (λ r. r < 7)) (frees_pass plan) (All-filter (is_free plan) (λ r. r < 7) below_seven below_seven_low)

  free : All (λ r. is_free plan r ≡ true) (frees plan)
  free = subst (All (λ r. is_free plan r ≡ true)) (frees_pass plan) (filter_passes (is_free plan) below_seven)

  rises : AllPairs (λ q r. q < r) (frees plan)
  rises = subst (AllPairs (λ q r. q < r)) (frees_pass plan) (AllPairs-filter (λ q r. q < r) (is_free plan) below_seven (AllPairs-from_increasing below_seven below_seven_rises))

  module _ (d r : ℕ) (is : part plan d ≡ Some r) where
    inside : d < length (frees plan)
    inside = slice_get_within (frees plan) d r is

    there : get_or (frees plan) d 0 ≡ r
    there = get_or_from_slice_get (frees plan) d r 0 is

  pub is_for_part : (depth r : ℕ) → part plan depth ≡ Some r → IsForPart plan depth r
  is_for_part depth r is = record {
    low = subst (λ r. r < 7) (there depth r is) (low depth 0 (inside depth r is));
    free = none_is (get_or plan r None) (subst (λ r. is_free plan r ≡ true) (there depth r is) (free depth 0 (inside depth r is)));
    own = λ d e.
        let here = there depth r is in
        let too = there d r e in
        let lower : ¬ (d < depth) = λ less. (let rising = rises d depth 0 less (inside depth r is) in omega (arith, here, too, rising)) in
        let upper : ¬ (depth < d) = λ less. (let rising = rises depth d 0 less (inside d r e) in omega (arith, here, too, rising)) in
        omega (arith, lower, upper);
  }

-- There is room for as many as were asked for --------------------------------------------------------------------

abbrev IsFreeFrom : ℕ → Plan → Type 0
IsFreeFrom r plan = (i : ℕ) → r ≤ i → i < 7 → get_or plan i None ≡ None

free_all : (plan : Plan) (rs : List ℕ) → All (λ r. r < 7) rs → IsFreeFrom 0 plan → length (free_among plan rs) ≡ length rs
free_all plan [] small free = refl
free_all plan (r ∷ rs) small free =
    ap (λ o. length (add_free o r (free_among plan rs))) (free r (omega arith) (small 0 0 (omega arith)))
    ∙ ap suc (free_all plan rs (λ k d inside. small (suc k) d (omega arith)) free)

spoil_frees : (plan : Plan) (r i : ℕ) → (i ≢ r → get_or plan i None ≡ None) → get_or (spoil plan r) i None ≡ None
spoil_frees [] r i other = refl
spoil_frees (o ∷ os) zero zero other = refl
spoil_frees (o ∷ os) zero (suc i) other = other (λ e. cc)
spoil_frees (o ∷ os) (suc r) zero other = other (λ e. cc)
spoil_frees (o ∷ os) (suc r) (suc i) other = spoil_frees os r i (λ ne. other (λ e. ne (omega arith)))

room_below_frees : (r : ℕ) (plan : Plan) (n : ℕ) → n ≤ 7 → IsFreeFrom r plan → n ≤ length (frees (room_below r plan n))
unfolding frees
room_below_frees zero plan n small free = let all = free_all plan below_seven below_seven_low free in omega (arith, all)
room_below_frees (suc r) plan n small free =
    go (nat_le n (length (frees plan))) refl
    (room_below_frees r (spoil plan r) n small (λ i from low. spoil_frees plan r i (λ other. free i (omega arith) low)))
  where
    go : (b : Bool) → nat_le n (length (frees plan)) ≡ b → n ≤ length (frees (room_below r (spoil plan r) n))
        → n ≤ length (frees (cond b plan (room_below r (spoil plan r) n)))
    go true e rest = leb-true n (length (frees plan)) e
    go false e rest = rest

pub room_has_parts : (plan after : Plan) (n : ℕ) → after ≡ room plan n → n ≤ 7 → (depth : ℕ) → depth < n → IsSome (part after depth)
unfolding room
room_has_parts plan after n is small depth inside =
    let enough = room_below_frees 7 plan n small (λ i from low. absurd (omega arith)) in
    ap (λ plan. is_some (part plan depth)) is
    ∙ ap is_some (slice_get-get_or (frees (room_below 7 plan n)) depth 0 (omega (arith, enough)))
