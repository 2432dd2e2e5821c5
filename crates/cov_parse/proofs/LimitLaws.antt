-- The fault of least place, and numbers.
use Rattle.std.proofs.Common.{◌≡◌, ℕ, zero, suc, ◌+◌, ◌≤◌, ◌<◌, nat_lt, nat_le, min, List, [], ◌∷◌, ◌++◌, length, map, flat_map, drop, get_or, Bool, true, false, if◌then◌else◌, Option, Some, None, refl, sym, ap, ◌∙◌, arith}
use Rattle.cov_grammar.specs.PlacedTrees.{stms, Placed, Stm}
use Rattle.cov_text.specs.declared.fault.Counted.{Counted}
use Rattle.cov_text.specs.declared.fault.Limit.TheVariants.{TooMany}
use Rattle.cov_text.specs.declared.fault.Excess.{Excess}
use Rattle.cov_parse.specs.declared.counts.Counting.{Counting}
use Rattle.cov_parse.specs.declared.counts.Counting.TheVariants.{Left, Past}
use Rattle.cov_text.specs.Limits.{sooner, least, in_stm, in_stms, past, places, places_in}
use Rattle.cov_parse.specs.Inside.Measures.{counted, onward}
use Rattle.cov_parse.proofs.LimitItems.{item_ahead}

pub sooner_none : (a : Option Excess) → sooner a None ≡ a
sooner_none None = refl
sooner_none (Some x) = refl

pub sooner_assoc : (a b c : Option Excess) → sooner (sooner a b) c ≡ sooner a (sooner b c)
sooner_assoc None b c = refl
sooner_assoc (Some x) None c = refl
sooner_assoc (Some x) (Some y) None = by (nat_le x.at y.at)
  where
    by : (b : Bool) → sooner (if b then Some x else Some y) None ≡ (if b then Some x else Some y)
    by true = refl
    by false = refl
sooner_assoc (Some x) (Some y) (Some z) = by (nat_le x.at y.at) (nat_le y.at z.at) (nat_le x.at z.at) refl refl refl
  where
    by : (p q r : Bool) → nat_le x.at y.at ≡ p → nat_le y.at z.at ≡ q → nat_le x.at z.at ≡ r
        → sooner (if p then Some x else Some y) (Some z) ≡ sooner (Some x) (if q then Some y else Some z)
    by true true true e g h = ap (λ b. if b then Some x else Some z) h ∙ sym (ap (λ b. if b then Some x else Some y) e)
    by true true false e g h = absurd (grind (arith, e, g, h))
    by true false r e g h = refl
    by false true r e g h = ap (λ b. if b then Some y else Some z) g ∙ sym (ap (λ b. if b then Some x else Some y) e)
    by false false true e g h = absurd (grind (arith, e, g, h))
    by false false false e g h = ap (λ b. if b then Some y else Some z) g ∙ sym (ap (λ b. if b then Some x else Some z) h)

-- one more item
pub found_step : {X A : Type 0} (f : A → Option Excess) (view : X → A) (xs : List X) (i : ℕ) (x d : X) (found now : Option Excess) → i < length xs → x ≡ get_or xs i d → now ≡ sooner found (f (view x))
    → sooner now (least f (map view (drop (i + 1) xs))) ≡ sooner found (least f (map view (drop i xs)))
found_step f view xs i x d found now h e g =
    ap (λ o. sooner o (least f (map view (drop (i + 1) xs)))) g
    ∙ sooner_assoc found (f (view x)) (least f (map view (drop (i + 1) xs)))
    ∙ ap (λ ys. sooner found (least f ys)) (sym (item_ahead view xs i x d h e))

pub stms_step : {X : Type 0} (room : ℕ) (view : X → Placed Stm) (xs : List X) (i : ℕ) (x d : X) (found now : Option Excess) → i < length xs → x ≡ get_or xs i d → now ≡ sooner found (in_stm room (view x).1)
    → sooner now (in_stms room (stms (map view (drop (i + 1) xs)))) ≡ sooner found (in_stms room (stms (map view (drop i xs))))
stms_step room view xs i x d found now h e g =
    ap (λ o. sooner o (in_stms room (stms (map view (drop (i + 1) xs))))) g
    ∙ sooner_assoc found (in_stm room (view x).1) (in_stms room (stms (map view (drop (i + 1) xs))))
    ∙ ap (λ ys. sooner found (in_stms room (stms ys))) (sym (item_ahead view xs i x d h e))

-- a measure that was taken up to a bound
pub capped_test : (most cap n r : ℕ) → most < cap → r ≡ min n cap → nat_lt most r ≡ nat_lt most n
capped_test most cap n r h e = by (nat_lt most r) (nat_lt most n) refl refl
  where
    by : (p q : Bool) → nat_lt most r ≡ p → nat_lt most n ≡ q → p ≡ q
    by true true f g = refl
    by false false f g = refl
    by true false f g = absurd (grind (arith, f, g, e))
    by false true f g = absurd (grind (arith, f, g, e))

-- Numbers ------------------------------------------------------------------------------------------------------

pub past_none : {X A : Type 0} (f : A → ℕ) (view : X → A) (n : ℕ) (c : Counted) (xs : List X) → length xs ≤ n → past n c (map f (map view xs)) ≡ None
past_none f view n c [] h = refl
past_none f view zero c (x ∷ xs) h = let no : ⊥ = omega arith in absurd no
past_none f view (suc n) c (x ∷ xs) h = past_none f view n c xs (omega arith)

pub past_some : {X A : Type 0} (f : A → ℕ) (view : X → A) (n : ℕ) (c : Counted) (xs : List X) (d : X) → n < length xs → past n c (map f (map view xs)) ≡ Some (record { at = f (view (get_or xs n d)); limit = TooMany c })
past_some f view n c [] d h = let no : ⊥ = omega arith in absurd no
past_some f view zero c (x ∷ xs) d h = refl
past_some f view (suc n) c (x ∷ xs) d h = past_some f view n c xs d (omega arith)

pub counted_append : (n : ℕ) (ps qs : List ℕ) → counted n (ps ++ qs) ≡ onward (counted n ps) qs
counted_append n [] qs = refl
counted_append zero (p ∷ ps) qs = refl
counted_append (suc n) (p ∷ ps) qs = counted_append n ps qs

abbrev pub excess_of : Counted → Counting → Option Excess
excess_of c (Left n) = None
excess_of c (Past at) = Some (record { at = at; limit = TooMany c })

pub past_counted : (n : ℕ) (c : Counted) (ps : List ℕ) → past n c ps ≡ excess_of c (counted n ps)
past_counted n c [] = refl
past_counted zero c (p ∷ ps) = refl
past_counted (suc n) c (p ∷ ps) = past_counted n c ps

-- statements one after the other
module _ {X : Type 0} (view : X → Placed Stm) (xs : List X) (i : ℕ) (x d : X) (h : i < length xs) (e : x ≡ get_or xs i d) where
  abbrev rest : List ℕ
  rest = places (stms (map view (drop (i + 1) xs)))

  stmts_are : places (stms (map view (drop i xs))) ≡ (view x).0 ∷ places_in (view x).1 ++ rest
  stmts_are = ap (λ ys. places (stms ys)) (item_ahead view xs i x d h e)

  pub stmts_go : (left n m : ℕ) → left ≡ suc n → Left m ≡ counted n (places_in (view x).1) → counted m rest ≡ counted left (places (stms (map view (drop i xs))))
  stmts_go left n m l g =
      ap (λ k. onward k rest) g ∙ sym (counted_append n (places_in (view x).1) rest) ∙ ap (λ k. counted k ((view x).0 ∷ places_in (view x).1 ++ rest)) (sym l) ∙ ap (counted left) (sym stmts_are)

  pub stmts_past : (left n at : ℕ) → left ≡ suc n → Past at ≡ counted n (places_in (view x).1) → Past at ≡ counted left (places (stms (map view (drop i xs))))
  stmts_past left n at l g =
      ap (λ k. onward k rest) g ∙ sym (counted_append n (places_in (view x).1) rest) ∙ ap (λ k. counted k ((view x).0 ∷ places_in (view x).1 ++ rest)) (sym l) ∙ ap (counted left) (sym stmts_are)

-- lists of places one after the other
module _ {X A : Type 0} (f : A → List ℕ) (view : X → A) (xs : List X) (i : ℕ) (x d : X) (h : i < length xs) (e : x ≡ get_or xs i d) where
  abbrev others : List ℕ
  others = flat_map f (map view (drop (i + 1) xs))

  lists_are : flat_map f (map view (drop i xs)) ≡ f (view x) ++ others
  lists_are = ap (flat_map f) (item_ahead view xs i x d h e)

  pub lists_go : (left m : ℕ) → Left m ≡ counted left (f (view x)) → counted m others ≡ counted left (flat_map f (map view (drop i xs)))
  lists_go left m g = ap (λ k. onward k others) g ∙ sym (counted_append left (f (view x)) others) ∙ ap (counted left) (sym lists_are)

  pub lists_past : (left at : ℕ) → Past at ≡ counted left (f (view x)) → Past at ≡ counted left (flat_map f (map view (drop i xs)))
  lists_past left at g = ap (λ k. onward k others) g ∙ sym (counted_append left (f (view x)) others) ∙ ap (counted left) (sym lists_are)
