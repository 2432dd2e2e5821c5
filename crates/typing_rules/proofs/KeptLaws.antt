-- Laws of what is kept of the entailments that a walk comes by.
use Rattle.std.proofs.Common.{◌≡◌, ℕ, suc, ◌+◌, ◌<◌, ◌≤◌, ◌==◌, ◌&&◌, List, [], ◌∷◌, ◌++◌, length, drop, get_or, map, reverse, Bool, true, false, if◌then◌else◌, not, Some, refl, sym, ap, ◌∙◌, arith, append_assoc}
use Rattle.std.specs.Prelude.{filter, slice_get}
use Rattle.std.proofs.lemmas.List.{append-nil, at_drop_all, at_drop_more, map-append, reverse-append}
use Rattle.std.proofs.lemmas.List.Elements.{filter-append}
use Rattle.cov_expr.specs.Term.{Term}
use Rattle.cov_ast.specs.Syntax.{Proof}
use Rattle.typing_law.specs.Entailments.{Entailment, is_proved}
use Rattle.typing_law.specs.ThreadEntailments.{PlacedEntailment, entailment_among, view_entail}
use Rattle.typing_law.specs.declared.entail.Entail.{Entail}
use Rattle.typing_rules.specs.Inside.Walking.{asked_from}
use Rattle.typing_rules.specs.Keeping.{Asked, copied_among, sought_among, is_wanted, Item, copied, sought, kept_for, searched_for, SearchedEntailment, view_kept, view_searched, wanted_among}
use Rattle.typing_rules.specs.Listed.{entailment_of, entailments_of}
use Rattle.typing_rules.specs.declared.asked.Entailment as rust
use Rattle.typing_rules.specs.declared.kept.Kept.{Kept}
use Rattle.typing_rules.specs.declared.kept.Searched.{Searched}
use Rattle.typing_rules.specs.declared.purpose.Purpose.{Purpose}
use Rattle.typing_rules.specs.declared.purpose.Purpose.TheVariants.{Judge, Collect, Search}
use Rattle.typing_rules.specs.declared.purpose.Wanted.TheVariants.{Every, Numbered}

pub kept_none : (u : Purpose) → kept_for u [] ≡ []
kept_none Judge = refl
kept_none (Collect wanted) = refl
kept_none (Search depth) = refl

-- of some entailments and then others
pub kept-append : (u : Purpose) (xs ys : List Asked) → kept_for u (xs ++ ys) ≡ kept_for u xs ++ kept_for u ys
kept-append Judge xs ys = refl
kept-append (Collect wanted) xs ys =
    let listed = λ (l : List Asked). map (λ a. a.listed) l in
    ap (λ gs. map copied (wanted_among wanted gs)) (map-append (λ a. a.listed) xs ys)
    ∙ ap (map copied) (filter-append (λ g. is_wanted wanted g.place g.number) (listed xs) (listed ys))
    ∙ map-append copied (wanted_among wanted (listed xs)) (wanted_among wanted (listed ys))
kept-append (Search depth) xs ys =
    let unproved = λ (l : List Asked). filter (λ a. not a.proved) l in
    ap (map (λ a. sought (searched_for depth a.listed))) (filter-append (λ a. not a.proved) xs ys)
    ∙ map-append (λ a. sought (searched_for depth a.listed)) (unproved xs) (unproved ys)

-- where every one is wanted, that is all
pub every_wanted : (gs : List PlacedEntailment) → wanted_among Every gs ≡ gs
every_wanted [] = refl
every_wanted (g ∷ gs) = ap (λ l. g ∷ l) (every_wanted gs)

-- where those with a number at a place are wanted, the first of them is the first such one of all
pub first_wanted : (place number : ℕ) (gs : List PlacedEntailment) → slice_get (wanted_among (Numbered place number) gs) 0 ≡ entailment_among gs place number
first_wanted place number [] = refl
first_wanted place number (g ∷ gs) = go (g.place == place && g.number == number) (first_wanted place number gs)
  where
    rest : List PlacedEntailment
    rest = wanted_among (Numbered place number) gs

    go : (b : Bool) → slice_get rest 0 ≡ entailment_among gs place number
        → slice_get (if b then g ∷ rest else rest) 0 ≡ (if b then Some g else entailment_among gs place number)
    go true h = refl
    go false h = h

-- the last item is the first of those from the last to the first
taken_off : (rest left : List Kept) (item : Kept) → rest ≡ left ++ item ∷ [] → reverse rest ≡ item ∷ reverse left
taken_off rest left item is = ap reverse is ∙ reverse-append left (item ∷ [])

-- Items of one kind ----------------------------------------------------------------------------------------------

pub all_copied : (gs : List PlacedEntailment) → copied_among (map copied gs) ≡ gs
all_copied [] = refl
all_copied (g ∷ gs) = ap (λ l. g ∷ l) (all_copied gs)

pub all_sought : {X : Type 0} (f : X → SearchedEntailment) (xs : List X) → sought_among (map (λ x. sought (f x)) xs) ≡ map f xs
all_sought f [] = refl
all_sought f (x ∷ xs) = ap (λ l. f x ∷ l) (all_sought f xs)

pub copied-append : (xs ys : List Item) → copied_among (xs ++ ys) ≡ copied_among xs ++ copied_among ys
copied-append [] ys = refl
copied-append (copied g ∷ xs) ys = ap (λ l. g ∷ l) (copied-append xs ys)
copied-append (sought s ∷ xs) ys = copied-append xs ys

pub sought-append : (xs ys : List Item) → sought_among (xs ++ ys) ≡ sought_among xs ++ sought_among ys
sought-append [] ys = refl
sought-append (copied g ∷ xs) ys = sought-append xs ys
sought-append (sought s ∷ xs) ys = ap (λ l. s ∷ l) (sought-append xs ys)

-- one item more was taken off
module _ (made new : List Entail) (rest left : List Kept) (item : Kept) (whole : List PlacedEntailment) (is : rest ≡ left ++ item ∷ []) where
  pub copied_more : map view_entail made ++ copied_among (map view_kept (reverse rest)) ≡ whole
      → map view_entail new ≡ map view_entail made ++ copied_among (view_kept item ∷ [])
      → map view_entail new ++ copied_among (map view_kept (reverse left)) ≡ whole
  copied_more kept added =
      let items = map view_kept (reverse left) in
      ap (λ l. l ++ copied_among items) added
      ∙ append_assoc (map view_entail made) (copied_among (view_kept item ∷ [])) (copied_among items)
      ∙ ap (λ l. map view_entail made ++ l) (sym (copied-append (view_kept item ∷ []) items))
      ∙ ap (λ xs. map view_entail made ++ copied_among (map view_kept xs)) (sym (taken_off rest left item is)) ∙ kept

module _ (made new : List Searched) (rest left : List Kept) (item : Kept) (whole : List SearchedEntailment) (is : rest ≡ left ++ item ∷ []) where
  pub sought_more : map view_searched made ++ sought_among (map view_kept (reverse rest)) ≡ whole
      → map view_searched new ≡ map view_searched made ++ sought_among (view_kept item ∷ [])
      → map view_searched new ++ sought_among (map view_kept (reverse left)) ≡ whole
  sought_more kept added =
      let items = map view_kept (reverse left) in
      ap (λ l. l ++ sought_among items) added
      ∙ append_assoc (map view_searched made) (sought_among (view_kept item ∷ [])) (sought_among items)
      ∙ ap (λ l. map view_searched made ++ l) (sym (sought-append (view_kept item ∷ []) items))
      ∙ ap (λ xs. map view_searched made ++ sought_among (map view_kept xs)) (sym (taken_off rest left item is)) ∙ kept

-- What is kept of one entailment to search -----------------------------------------------------------------------

module _ (depth at : ℕ) (proofs : List Proof) (n : ℕ) (g : Entailment) where
  abbrev asked_here : Bool → Asked
  asked_here b = record { listed = record { place = at; number = n; entailment = g }; proved = b }

  pub proved_kept : is_proved proofs n g ≡ true → kept_for (Search depth) (asked_from at proofs n (g ∷ [])) ≡ []
  proved_kept is = ap (λ b. kept_for (Search depth) (asked_here b ∷ [])) is

  pub unproved_kept : is_proved proofs n g ≡ false
      → kept_for (Search depth) (asked_from at proofs n (g ∷ [])) ≡ sought (searched_for depth (record { place = at; number = n; entailment = g })) ∷ []
  unproved_kept is = ap (λ b. kept_for (Search depth) (asked_here b ∷ [])) is

-- Entailments one after another ----------------------------------------------------------------------------------

module _ (u : Purpose) (at : ℕ) (proofs : List Proof) (preds : List Term) (old : List Kept) (n : ℕ) (xs : List rust.Entailment) (i : ℕ) (whole : List Item)
    (kept : map view_kept old ++ kept_for u (asked_from at proofs n (entailments_of preds (drop i xs))) ≡ whole) where
  -- one entailment more was come by
  pub kept_more : (new : List Kept) (x : rust.Entailment) → i < length xs → x ≡ get_or xs i x
      → map view_kept new ≡ map view_kept old ++ kept_for u (asked_from at proofs n (entailment_of preds x ∷ []))
      → map view_kept new ++ kept_for u (asked_from at proofs (n + 1) (entailments_of preds (drop (i + 1) xs))) ≡ whole
  kept_more new x inside is added =
      let rest = entailments_of preds (drop (i + 1) xs) in
      let here = asked_from at proofs n (entailment_of preds x ∷ []) in
      let next : n + 1 ≡ suc n = omega arith in
      ap (λ m. map view_kept new ++ kept_for u (asked_from at proofs m rest)) next
      ∙ ap (λ l. l ++ kept_for u (asked_from at proofs (suc n) rest)) added
      ∙ append_assoc (map view_kept old) (kept_for u here) (kept_for u (asked_from at proofs (suc n) rest))
      ∙ ap (λ l. map view_kept old ++ l) (sym (kept-append u here (asked_from at proofs (suc n) rest)))
      ∙ ap (λ y. map view_kept old ++ kept_for u (asked_from at proofs n (entailments_of preds (y ∷ drop (i + 1) xs)))) is
      ∙ sym (at_drop_more (λ ys. map view_kept old ++ kept_for u (asked_from at proofs n (entailments_of preds ys))) xs i x inside) ∙ kept

  pub kept_all : length xs ≤ i → map view_kept old ≡ whole
  kept_all past =
      sym (append-nil (map view_kept old)) ∙ ap (λ l. map view_kept old ++ l) (sym (kept_none u))
      ∙ sym (at_drop_all (λ ys. map view_kept old ++ kept_for u (asked_from at proofs n (entailments_of preds ys))) xs i past) ∙ kept
