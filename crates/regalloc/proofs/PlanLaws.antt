-- The registers of a plan one after the other.
use Rattle.std.proofs.Common.{◌≡◌, ℕ, zero, suc, ◌+◌, ◌-◌, ◌<◌, ◌≤◌, List, [], ◌∷◌, ◌++◌, length, get_or, set, take, drop, map, Bool, true, false, cond, not, Option, Some, None, is_none, is_some, count_by, refl, sym, ◌∙◌, ap, ap₂, arith, add-one, zero-add, slice_get}
use Rattle.std.specs.List.{filter, range_with_len}
use Rattle.std.specs.Option.{option_eq}
use Rattle.std.proofs.Math.Dec.{eqb}
use Rattle.std.proofs.lemmas.List.{drop_more, drop_all, take_all, append-nil, get_or-take, length-take-le, set-get_or}
use Rattle.std.proofs.lemmas.List.Edits.{map_over_more}
use Rattle.std.proofs.lemmas.List.FromFn.{get_or-range_with_len}
use Rattle.std.proofs.lemmas.List.Sums.{length-filter}
use Rattle.regalloc.specs.Plan.{Plan, is_for, stored, only, restrict, both, meet, add_free, free_among, below_seven, frees, room_below, room}

-- A walk that gives up some records -----------------------------------------------------------------------------

-- what is at an index that the walk has yet to come to
pub here_still : (f : Option ℕ → Option ℕ) (old now : Plan) (r : ℕ) → now ≡ map f (take r old) ++ drop r old → get_or now r None ≡ get_or old r None
here_still f old now r is = ap (λ os. get_or os r None) is ∙ walk old r
  where
    walk : (old : Plan) (r : ℕ) → get_or (map f (take r old) ++ drop r old) r None ≡ get_or old r None
    walk [] zero = refl
    walk [] (suc r) = refl
    walk (o ∷ os) zero = refl
    walk (o ∷ os) (suc r) = walk os r

get_or_own : (plan : Plan) (r : ℕ) → get_or plan r None ≡ get_or plan r (get_or plan r None)
get_or_own [] r = refl
get_or_own (o ∷ os) zero = refl
get_or_own (o ∷ os) (suc r) = get_or_own os r

module _ (f : Option ℕ → Option ℕ) (old now : Plan) (r : ℕ) (inside : r < length old) (is : now ≡ map f (take r old) ++ drop r old) where
  changed : (o : Option ℕ) → f (get_or now r None) ≡ o → set now r o ≡ map f (take (r + 1) old) ++ drop (r + 1) old
  changed o e = ap (set now r) (sym e) ∙ map_over_more f old now r (get_or now r None) inside is (get_or_own now r)

  unchanged : f (get_or now r None) ≡ get_or now r None → now ≡ map f (take (r + 1) old) ++ drop (r + 1) old
  unchanged e = sym (set-get_or now r None) ∙ changed (get_or now r None) e

is_for_eq : (x : ℕ) (o : Option ℕ) → option_eq eqb o (Some x) ≡ is_for x o
is_for_eq x None = refl
is_for_eq x (Some y) = refl

pub stored_more : (old now next : Plan) (x r : ℕ) (b : Bool) → r < length old → now ≡ stored (take r old) x ++ drop r old
    → option_eq eqb (get_or now r None) (Some x) ≡ b → next ≡ cond b (set now r None) now → next ≡ stored (take (r + 1) old) x ++ drop (r + 1) old
stored_more old now next x r b inside is e n = n ∙ go b (ap (λ b. cond b None o) (sym (is_for_eq x o) ∙ e))
  where
    o : Option ℕ
    o = get_or now r None

    f : Option ℕ → Option ℕ
    f o = cond (is_for x o) None o

    go : (b : Bool) → f o ≡ cond b None o → cond b (set now r None) now ≡ map f (take (r + 1) old) ++ drop (r + 1) old
    go true e = changed f old now r inside is None e
    go false e = unchanged f old now r inside is e

module _ (test : ℕ → Bool) (old now next : Plan) (r : ℕ) (inside : r < length old) (is : now ≡ restrict test (take r old) ++ drop r old) where
  pub restrict_past : get_or now r None ≡ None → next ≡ now → next ≡ restrict test (take (r + 1) old) ++ drop (r + 1) old
  restrict_past e n = n ∙ unchanged (only test) old now r inside is (ap (only test) e ∙ sym e)

  pub restrict_more : (x : ℕ) (b : Bool) → get_or now r None ≡ Some x → test x ≡ b → next ≡ cond b now (set now r None) → next ≡ restrict test (take (r + 1) old) ++ drop (r + 1) old
  restrict_more x true e t n = n ∙ unchanged (only test) old now r inside is (ap (only test) e ∙ ap (λ b. cond b (Some x) None) t ∙ sym e)
  restrict_more x false e t n = n ∙ changed (only test) old now r inside is None (ap (only test) e ∙ ap (λ b. cond b (Some x) None) t)

pub walked_all : (f : Option ℕ → Option ℕ) (old now : Plan) (r : ℕ) → length old ≤ r → now ≡ map f (take r old) ++ drop r old → now ≡ map f old
walked_all f old now r past is =
    is ∙ ap (λ rest. map f (take r old) ++ rest) (drop_all r old past) ∙ append-nil (map f (take r old)) ∙ ap (map f) (take_all r old past)

-- A walk over two plans -----------------------------------------------------------------------------------------

both_where_equal : (o q : Option ℕ) → both o q ≡ cond (not (option_eq eqb q o)) None o
both_where_equal None None = refl
both_where_equal None (Some y) = refl
both_where_equal (Some x) None = refl
both_where_equal (Some x) (Some y) = go (eqb y x)
  where
    go : (b : Bool) → cond b (Some x) None ≡ cond (not b) None (Some x)
    go true = refl
    go false = refl

meet_walk : (old other : Plan) (r : ℕ) → r < length old → length old ≡ length other
    → (let now = meet (take r old) (take r other) ++ drop r old in set now r (both (get_or now r None) (get_or other r None)))
    ≡ meet (take (suc r) old) (take (suc r) other) ++ drop (suc r) old
meet_walk [] other r inside long = absurd (omega arith)
meet_walk (o ∷ os) [] r inside long = absurd (omega arith)
meet_walk (o ∷ os) (q ∷ qs) zero inside long = refl
meet_walk (o ∷ os) (q ∷ qs) (suc r) inside long = ap (λ os. both o q ∷ os) (meet_walk os qs r (omega arith) (omega arith))

pub meet_more : (old other now next : Plan) (r : ℕ) (b : Bool) → r < length old → length old ≡ length other
    → now ≡ meet (take r old) (take r other) ++ drop r old → not (option_eq eqb (get_or other r None) (get_or now r None)) ≡ b
    → next ≡ cond b (set now r None) now → next ≡ meet (take (r + 1) old) (take (r + 1) other) ++ drop (r + 1) old
meet_more old other now next r b inside long is e n =
    n ∙ go b (both_where_equal o q ∙ ap (λ b. cond b None o) e)
    ∙ ap (λ now. set now r (both (get_or now r None) q)) is ∙ meet_walk old other r inside long
    ∙ ap (λ r. meet (take r old) (take r other) ++ drop r old) (sym (add-one r))
  where
    o : Option ℕ
    o = get_or now r None

    q : Option ℕ
    q = get_or other r None

    go : (b : Bool) → both o q ≡ cond b None o → cond b (set now r None) now ≡ set now r (both o q)
    go true e = ap (set now r) (sym e)
    go false e = sym (set-get_or now r None) ∙ ap (set now r) (sym e)

pub meet_all : (old other now : Plan) (r : ℕ) → length old ≤ r → length old ≡ length other → now ≡ meet (take r old) (take r other) ++ drop r old → now ≡ meet old other
meet_all old other now r past long is =
    is ∙ ap (λ rest. meet (take r old) (take r other) ++ rest) (drop_all r old past) ∙ append-nil (meet (take r old) (take r other))
    ∙ ap₂ meet (take_all r old past) (take_all r other (omega arith))

-- Registers that keep nothing -----------------------------------------------------------------------------------

add_where_none : (o : Option ℕ) (r : ℕ) (rs : List ℕ) (b : Bool) → is_some o ≡ b → add_free o r rs ≡ cond b rs (r ∷ rs)
add_where_none None r rs b e = ap (λ b. cond b rs (r ∷ rs)) e
add_where_none (Some x) r rs b e = ap (λ b. cond b rs (r ∷ rs)) e

pub free_more : (plan : Plan) (r : ℕ) (b : Bool) → r < 7 → is_some (get_or plan r None) ≡ b
    → free_among plan (drop r below_seven) ≡ cond b (free_among plan (drop (r + 1) below_seven)) (r ∷ free_among plan (drop (r + 1) below_seven))
free_more plan r b inside e = ap (free_among plan) first ∙ add_where_none (get_or plan r None) r (free_among plan (drop (r + 1) below_seven)) b e
  where
    first : drop r below_seven ≡ r ∷ drop (r + 1) below_seven
    first = drop_more below_seven r 0 inside ∙ ap (λ r'. r' ∷ drop (r + 1) below_seven) (get_or-range_with_len 0 7 r 0 inside ∙ zero-add r)

pub frees_is : (plan : Plan) → free_among plan below_seven ≡ frees plan
unfolding frees
frees_is plan = refl

pub rank_more : (rs rest : List ℕ) (r left less : ℕ) → rs ≡ r ∷ rest → (left ≡ 0 → ⊥) → less ≡ left - 1 → slice_get rs left ≡ slice_get rest less
rank_more rs rest r zero less e some l = absurd (some refl)
rank_more rs rest r (suc left) less e some l = let same : left ≡ less = omega arith in ap (λ rs. slice_get rs (suc left)) e ∙ ap (slice_get rest) same

length-add_free : (o : Option ℕ) (os : Plan) (r : ℕ) (rs : List ℕ) → length os ≡ length rs → length (cond (is_none o) (o ∷ os) os) ≡ length (add_free o r rs)
length-add_free None os r rs e = ap suc e
length-add_free (Some x) os r rs e = e

-- what stands from a register on
free_count : (plan os : Plan) (r : ℕ) → ((i : ℕ) → i < length os → get_or plan (r + i) None ≡ get_or os i None)
    → length (filter is_none os) ≡ length (free_among plan (range_with_len r (length os)))
free_count plan [] r same = refl
free_count plan (o ∷ os) r same =
    let rest = free_among plan (range_with_len (r + 1) (length os)) in
    let here : r ≡ r + 0 = omega arith in
    length-add_free o (filter is_none os) r rest
    (free_count plan os (r + 1) (λ i inside. let past : r + 1 + i ≡ r + suc i = omega arith in ap (λ k. get_or plan k None) past ∙ same (suc i) (omega arith)))
    ∙ ap (λ o. length (add_free o r rest)) (sym (ap (λ k. get_or plan k None) here ∙ same 0 (omega arith)))

pub frees_count : (plan : Plan) → 7 ≤ length plan → count_by is_none (take 7 plan) ≡ length (frees plan)
frees_count plan long =
    let seven : length (take 7 plan) ≡ 7 = length-take-le 7 plan long in
    sym (length-filter is_none (take 7 plan))
    ∙ free_count plan (take 7 plan) 0 (λ i inside. ap (λ k. get_or plan k None) (zero-add i) ∙ sym (get_or-take 7 plan i None (omega arith)))
    ∙ ap (λ n. length (free_among plan (range_with_len 0 n))) seven ∙ ap length (frees_is plan)

pub room_is : (plan : Plan) (n : ℕ) → room_below 7 plan n ≡ room plan n
unfolding room
room_is plan n = refl
