-- An index of hypotheses gives what all hypotheses give.
use Rattle.std.proofs.Common.{◌≡◌, ℕ, zero, suc, ◌<◌, ◌≤◌, max, min, nat_le, List, [], ◌∷◌, ◌++◌, length, get_or, set, Bool, true, false, Option, Some, None, refl, sym, ◌∙◌, ap, arith, inl, inr, ◌⊎◌, if◌then◌else◌, get_or-set_same, get_or-set_other, length-set, map, option_map, Result, Ok, Err, OnOk}
use Rattle.std.proofs.lemmas.Bool.{leb-true, leb-false, cases_eq}
use Rattle.std.proofs.lemmas.List.{get_or-map, get_or_read, map-set, map_push}
use Rattle.std.proofs.lemmas.Nat.{mod_below}
use Rattle.cov_expr.specs.declared.expr.Op.TheVariants.{Add, Sub, Mul, And, Or, Xor, Eq, Ne, Lt, Le, Both, Either}
use Rattle.cov_expr.specs.declared.list.NoMemory.{NoMemory}
use Rattle.cov_expr.specs.Term.{Term, const, var, neg, bin}
use Rattle.cov_expr.specs.Trees.{same}
use Rattle.cov_expr.proofs.Trees.{same_is}
use Rattle.entail_range.specs.declared.interval.Bound.{Bound}
use Rattle.entail_range.specs.declared.interval.Bound.TheVariants.{Empty, Within}
use Rattle.entail_range.specs.Inside.Index.{IsFit, FindsAll, Gains, added}
use Rattle.entail_range.specs.Intervals.{all, cut, from_to}
use Rattle.entail_range.specs.Inside.Slots.{slot, key, left_side, right_side}
use Rattle.entail_range.specs.Range.{number_beside, given, limited}
use Rattle.entail_range.specs.Inside.Speaks.{is_number}
use Rattle.entail_range.proofs.Sound.{limited_append}

-- Bounds -------------------------------------------------------------------------------------------------------

fit_from_to : (low high : ℕ) → high ≤ 4294967295 → IsFit (from_to low high)
fit_from_to low high h = at (nat_le low high) refl
  where
    at : (b : Bool) → nat_le low high ≡ b → IsFit (if b then Within low high else Empty)
    at true e = (leb-true low high e, h)
    at false e = (tt, tt)

pub fit_cut : (b c : Bound) → IsFit b → IsFit (cut b c)
fit_cut Empty c h = (tt, tt)
fit_cut (Within low high) Empty h = (tt, tt)
fit_cut (Within low high) (Within l u) h = fit_from_to (max low l) (min high u) (omega arith)

pub cut_all : (b : Bound) → IsFit b → cut b all ≡ b
cut_all Empty h = refl
cut_all (Within low high) h = at (nat_le (max low 0) (min high 4294967295)) refl
  where
    low_is : max low 0 ≡ low
    low_is = omega arith

    high_is : min high 4294967295 ≡ high
    high_is = omega arith

    at : (b : Bool) → nat_le (max low 0) (min high 4294967295) ≡ b
        → (if b then Within (max low 0) (min high 4294967295) else Empty) ≡ Within low high
    at true e = rw (low_is, high_is) refl
    at false e = let l = leb-false (max low 0) (min high 4294967295) e in absurd (omega arith)

fit_limited : (hyps : List Term) (e : Term) (b : Bound) → IsFit b → IsFit (limited hyps e b)
fit_limited [] e b h = h
fit_limited (g ∷ hyps) e b h = fit_limited hyps e (cut b (given g e)) (fit_cut b (given g e) h)

-- Hypotheses elsewhere -----------------------------------------------------------------------------------------

module _ (n : ℕ) (e : Term) where
  none_beside : (side other : Term) → (option_map (slot n) (if is_number other then Some side else None) ≡ Some (slot n e) → ⊥)
      → number_beside side other e ≡ None
  none_beside side (const k) ne = at (same side e) refl
    where
      at : (b : Bool) → same side e ≡ b → (if b then Some k else None) ≡ None
      at true i = absurd (ne (ap (λ (f : Term). Some (slot n f)) (same_is side e i)))
      at false i = refl
  none_beside side (var x) ne = refl
  none_beside side (neg a) ne = refl
  none_beside side (bin op a b) ne = refl

  -- where neither side that it may bound lies at the expression's slot
  pub given_elsewhere : (h : Term) → (option_map (slot n) (left_side h) ≡ Some (slot n e) → ⊥)
      → (option_map (slot n) (right_side h) ≡ Some (slot n e) → ⊥) → given h e ≡ all
  given_elsewhere (bin Le a b) l r = rw (none_beside a b l, none_beside b a r) refl
  given_elsewhere (bin Lt a b) l r = rw (none_beside a b l, none_beside b a r) refl
  given_elsewhere (bin Eq a b) l r = rw (none_beside a b l) refl
  given_elsewhere (bin Add a b) l r = refl
  given_elsewhere (bin Sub a b) l r = refl
  given_elsewhere (bin Mul a b) l r = refl
  given_elsewhere (bin And a b) l r = refl
  given_elsewhere (bin Or a b) l r = refl
  given_elsewhere (bin Xor a b) l r = refl
  given_elsewhere (bin Ne a b) l r = refl
  given_elsewhere (bin Both a b) l r = refl
  given_elsewhere (bin Either a b) l r = refl
  given_elsewhere (const k) l r = refl
  given_elsewhere (var x) l r = refl
  given_elsewhere (neg a) l r = refl

-- Buckets ------------------------------------------------------------------------------------------------------

pub slot_within : (n : ℕ) (e : Term) → 0 < n → slot n e < n
slot_within n e h = mod_below (key e) n h

-- at the start
pub finds_none : (buckets : List (List Term)) → 0 < length buckets → ((i : ℕ) → get_or buckets i [] ≡ []) → FindsAll buckets []
finds_none buckets some empty = record {
  some = some;
  found = λ e b fit. ap (λ (hyps : List Term). limited hyps e b) (empty (slot (length buckets) e));
}

length_added : (buckets : List (List Term)) (slot : Option ℕ) (h : Term) → length (added buckets slot h) ≡ length buckets
length_added buckets None h = refl
length_added buckets (Some i) h = length-set buckets i (get_or buckets i [] ++ h ∷ [])

added_here : (buckets : List (List Term)) (slot : Option ℕ) (h : Term) (p : ℕ) → slot ≡ Some p → p < length buckets
    → get_or (added buckets slot h) p [] ≡ get_or buckets p [] ++ h ∷ []
added_here buckets None h p is within = cc
added_here buckets (Some i) h p is within =
    let same : i ≡ p = cc in
    rw same (get_or-set_same buckets p (get_or buckets p [] ++ h ∷ []) [] within)

added_elsewhere : (buckets : List (List Term)) (slot : Option ℕ) (h : Term) (p : ℕ) → (slot ≡ Some p → ⊥)
    → get_or (added buckets slot h) p [] ≡ get_or buckets p []
added_elsewhere buckets None h p other = refl
added_elsewhere buckets (Some i) h p other =
    get_or-set_other buckets i p (get_or buckets i [] ++ h ∷ []) [] (λ (same : p ≡ i). other (ap Some (sym same)))

cases_slot : (slot : Option ℕ) (p : ℕ) → (slot ≡ Some p) ⊎ (slot ≡ Some p → ⊥)
cases_slot None p = inr (λ (is : None ≡ Some p). cc)
cases_slot (Some i) p = at (cases_eq i p)
  where
    at : (i ≡ p) ⊎ (i ≡ p → ⊥) → (Some i ≡ Some p) ⊎ (Some i ≡ Some p → ⊥)
    at (inl same) = inl (ap Some same)
    at (inr other) = inr (λ (is : Some i ≡ Some p). let same : i ≡ p = cc in other same)

-- a hypothesis more at up to two slots, which leaves every word to what lies elsewhere
module _ (buckets : List (List Term)) (hyps : List Term) (h : Term) (l r : Option ℕ)
    (apart : (p : ℕ) → l ≡ Some p → r ≡ Some p → ⊥)
    (elsewhere : (e : Term) → (l ≡ Some (slot (length buckets) e) → ⊥) → (r ≡ Some (slot (length buckets) e) → ⊥) → given h e ≡ all)
    (finds : FindsAll buckets hyps) where
  more_here : (bucket : List Term) (e : Term) (b : Bound) → limited bucket e b ≡ limited hyps e b
      → limited (bucket ++ h ∷ []) e b ≡ limited (hyps ++ h ∷ []) e b
  more_here bucket e b found =
      limited_append bucket (h ∷ []) e b
      ∙ ap (λ (c : Bound). cut c (given h e)) found
      ∙ sym (limited_append hyps (h ∷ []) e b)

  found_added : (e : Term) (b : Bound) → IsFit b
      → (l ≡ Some (slot (length buckets) e)) ⊎ (l ≡ Some (slot (length buckets) e) → ⊥)
      → (r ≡ Some (slot (length buckets) e)) ⊎ (r ≡ Some (slot (length buckets) e) → ⊥)
      → limited (get_or (added (added buckets l h) r h) (slot (length buckets) e) []) e b ≡ limited (hyps ++ h ∷ []) e b
  found_added e b fit (inl i) (inl j) = absurd (apart (slot (length buckets) e) i j)
  found_added e b fit (inl i) (inr m) =
      let p = slot (length buckets) e in
      rw (added_elsewhere (added buckets l h) r h p m, added_here buckets l h p i (slot_within (length buckets) e finds.some))
      (more_here (get_or buckets p []) e b (finds.found e b fit))
  found_added e b fit (inr n) (inl j) =
      let p = slot (length buckets) e in
      rw (added_here (added buckets l h) r h p j (rw (length_added buckets l h) (slot_within (length buckets) e finds.some)), added_elsewhere buckets l h p n)
      (more_here (get_or buckets p []) e b (finds.found e b fit))
  found_added e b fit (inr n) (inr m) =
      let p = slot (length buckets) e in
      rw (added_elsewhere (added buckets l h) r h p m, added_elsewhere buckets l h p n)
      (finds.found e b fit
      ∙ sym (limited_append hyps (h ∷ []) e b
      ∙ ap (cut (limited hyps e b)) (elsewhere e n m)
      ∙ cut_all (limited hyps e b) (fit_limited hyps e b fit)))

  pub finds_added : FindsAll (added (added buckets l h) r h) (hyps ++ h ∷ [])
  finds_added =
      let more = length_added (added buckets l h) r h ∙ length_added buckets l h in
      record {
        some = rw more finds.some;
        found = λ e b fit. rw more (found_added e b fit (cases_slot l (slot (length buckets) e)) (cases_slot r (slot (length buckets) e)));
      }

-- Both sides' slots are one, or there is none.
pub gains_one : (buckets : List (List Term)) (h : Term) (l r : Option ℕ) → l ≡ option_map (slot (length buckets)) (left_side h)
    → r ≡ option_map (slot (length buckets)) (right_side h) → r ≡ l → Gains buckets (added buckets l h) h
gains_one buckets h l r left right same hyps finds =
    finds_added buckets hyps h l None (λ p (i : l ≡ Some p) (j : None ≡ Some p). cc)
    (λ e n m. given_elsewhere (length buckets) e h (rw (← left) n) (rw (← right, same) n)) finds

pub gains_two : (buckets : List (List Term)) (h : Term) (l r : Option ℕ) → l ≡ option_map (slot (length buckets)) (left_side h)
    → r ≡ option_map (slot (length buckets)) (right_side h) → (r ≡ l → ⊥) → Gains buckets (added (added buckets l h) r h) h
gains_two buckets h l r left right other hyps finds =
    finds_added buckets hyps h l r (λ p (i : l ≡ Some p) (j : r ≡ Some p). other (j ∙ sym i))
    (λ e n m. given_elsewhere (length buckets) e h (rw (← left) n) (rw (← right) m)) finds

-- the same, where memory may run out on the way
pub ok_gains : (result : Result (Unit {0}) NoMemory) (before after grown : List (List Term)) (h : Term) → Gains before grown h
    → OnOk result (after ≡ grown) → OnOk result (Gains before after h)
ok_gains (Ok done) before after grown h gains is = rw is gains
ok_gains (Err fault) before after grown h gains is = tt

-- one bucket of what is lent, with one item more
pub put_is : {X : Type 0} (f : X → Term) (items : List (List X)) (i : ℕ) (bucket new : List X) (x : X)
    → i < length items → bucket ≡ get_or items i bucket → new ≡ bucket ++ x ∷ []
    → map (map f) (set items i new) ≡ added (map (map f) items) (Some i) (f x)
put_is f items i bucket new x within read pushed =
    let here : get_or (map (map f) items) i [] ≡ map f bucket =
    get_or-map (map f) items i [] [] within ∙ ap (map f) (sym (get_or_read items i bucket within read [])) in
    let made : map f new ≡ get_or (map (map f) items) i [] ++ f x ∷ [] = rw (pushed, here) (map_push f bucket x) in
    rw (map-set (map f) items i new, made) refl

-- an empty bucket more
pub empty_push : {X : Type 0} (f : X → Term) (items : List (List X)) (new : List X) → new ≡ []
    → ((i : ℕ) → get_or (map (map f) items) i [] ≡ []) → (i : ℕ) → get_or (map (map f) (items ++ new ∷ [])) i [] ≡ []
empty_push f [] new e none zero = ap (map f) e
empty_push f [] new e none (suc i) = refl
empty_push f (bucket ∷ items) new e none zero = none zero
empty_push f (bucket ∷ items) new e none (suc i) = empty_push f items new e (λ j. none (suc j)) i
