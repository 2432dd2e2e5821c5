-- Obligations of a statement the last of which are about entailments and the numbers of proofs.
use Rattle.std.proofs.Common.{◌≡◌, ℕ, List, [], ◌∷◌, ◌++◌, length, map, take, true, refl, sym, ap, ◌∙◌, subst, arith, append_assoc, Some, None, Err}
use Rattle.std.specs.Prelude.{filter}
use Rattle.std.proofs.lemmas.List.{append-nil, length-map, nil_from_length, take-map, take_at}
use Rattle.std.proofs.lemmas.List.Elements.{filter-append}
use Rattle.cov_ast.specs.Obligations.{Decides, Obligation, first_false}
use Rattle.cov_ast.specs.Plain.{Plain}
use Rattle.cov_ast.specs.Syntax.{Proof}
use Rattle.cov_ast.specs.declared.refusal.CheckFault.{CheckFault}
use Rattle.cov_ast.specs.declared.refusal.CheckFault.TheVariants.{Refused, NoMemory}
use Rattle.cov_ast.specs.declared.refusal.Detail.TheVariants.{Number}
use Rattle.cov_ast.specs.declared.refusal.Refusal.{Refusal}
use Rattle.cov_ast.specs.declared.refusal.Rule.TheVariants.{V13}
use Rattle.point_law.specs.Point.{Point}
use Rattle.typing_law.specs.Counts.{entailment_count}
use Rattle.typing_law.specs.Entailments.{Entailment}
use Rattle.typing_law.specs.ThreadEntailments.{PlacedEntailment, entailment_obligations, placed_from}
use Rattle.typing_law.specs.ThreadObligations.{is_number, numbers, obligation, proved, small_terms}
use Rattle.typing_rules.specs.declared.kept.Kept.{Kept}
use Rattle.typing_law.proofs.Counting.{count_append, count_numbers, count_proved}
use Rattle.typing_rules.specs.Keeping.{are_others, asked_among, beside, is_other, Item, kept_for, looked_at, view_kept}
use Rattle.typing_rules.specs.Inside.Passing.{Passes, Stops}
use Rattle.typing_rules.specs.Inside.Walking.{asked_from, Tries}
use Rattle.typing_rules.specs.declared.entailments_tried.Tried.{Tried}
use Rattle.typing_rules.specs.declared.purpose.Purpose.{Purpose}
use Rattle.typing_rules.specs.declared.purpose.Purpose.TheVariants.{Judge, Collect, Search}
use Rattle.typing_rules.proofs.AskedLaws.{asked_no_more, asked_none, asking-append, asking_counted, beside_proved, proved_asks}
use Rattle.typing_rules.proofs.UnprovedLaws.{proved_silent}
use Rattle.typing_rules.proofs.Parts.{append_none, tried_decided}
use Rattle.typing_rules.proofs.Reaching.{adds_all, adds_none, looked-append, others-append, others_ask, others_counted, others_looked, others_stop}

-- Obligations about certificates -------------------------------------------------------------------------------------

module _ (p : Plain) (t at : ℕ) (proofs : List Proof) where
  -- a walk that doesn't judge looks at none of them
  numbers_of : (count : ℕ) (qs : List Proof) → filter is_other (map (λ q. obligation p t at V13 (Number q.number) (is_number count proofs q.number)) qs) ≡ []
  numbers_of count [] = refl
  numbers_of count (q ∷ qs) = numbers_of count qs

  pub numbers_silent : (count : ℕ) → filter is_other (numbers p t at count proofs) ≡ []
  numbers_silent count = numbers_of count proofs

  pub last_silent : (n count : ℕ) (gs : List Entailment) → filter is_other (proved p t at proofs n gs ++ (numbers p t at count proofs ++ [])) ≡ []
  last_silent n count gs =
      filter-append is_other (proved p t at proofs n gs) (numbers p t at count proofs ++ [])
      ∙ ap (λ l. l ++ filter is_other (numbers p t at count proofs ++ [])) (proved_silent p t at proofs n gs)
      ∙ ap (filter is_other) (append-nil (numbers p t at count proofs)) ∙ numbers_silent count

  pub asked_silent : (n : ℕ) (gs : List Entailment) → filter is_other (proved p t at proofs n gs ++ []) ≡ []
  asked_silent n gs = ap (filter is_other) (append-nil (proved p t at proofs n gs)) ∙ proved_silent p t at proofs n gs

-- How many there are -------------------------------------------------------------------------------------------------

module _ (p : Plain) (t at : ℕ) (proofs : List Proof) (n : ℕ) (gs : List Entailment) where
  -- what is asked last is that the entailments are proved
  pub last_asks : (count : ℕ) → entailment_obligations (proved p t at proofs n gs ++ (numbers p t at count proofs ++ [])) ≡ proved p t at proofs n gs
  last_asks count =
      asking-append (proved p t at proofs n gs) (numbers p t at count proofs ++ [])
      ∙ ap (λ l. l ++ entailment_obligations (numbers p t at count proofs ++ [])) (proved_asks p t at proofs n gs)
      ∙ ap (λ l. proved p t at proofs n gs ++ entailment_obligations l) (append-nil (numbers p t at count proofs))
      ∙ ap (λ l. proved p t at proofs n gs ++ l) (nil_from_length (entailment_obligations (numbers p t at count proofs)) (asking_counted (numbers p t at count proofs) ∙ count_numbers p t at count proofs))
      ∙ append-nil (proved p t at proofs n gs)

  pub asked_asks : entailment_obligations (proved p t at proofs n gs ++ []) ≡ proved p t at proofs n gs
  asked_asks = ap entailment_obligations (append-nil (proved p t at proofs n gs)) ∙ proved_asks p t at proofs n gs

  pub asked_counted : entailment_count (proved p t at proofs n gs ++ []) ≡ length gs
  asked_counted = omega (arith, count_append (proved p t at proofs n gs) [], count_proved p t at proofs n gs)

-- What is looked at --------------------------------------------------------------------------------------------------

pub looked_front : (u : Purpose) (front rest : List Obligation) → are_others front ≡ true → looked_at u (front ++ rest) ≡ front ++ looked_at u rest
looked_front u front rest others = looked-append u front rest ∙ ap (λ l. l ++ looked_at u rest) (others_looked u front others)

pub looked_last : (u : Purpose) (sizes asked given : List Obligation) → are_others sizes ≡ true
    → looked_at u (sizes ++ (asked ++ (given ++ []))) ≡ sizes ++ (looked_at u asked ++ looked_at u given)
looked_last u sizes asked given others =
    looked_front u sizes (asked ++ (given ++ [])) others
    ∙ ap (λ l. sizes ++ l) (looked-append u asked (given ++ []) ∙ ap (λ l. looked_at u asked ++ looked_at u l) (append-nil given))

-- Where all hold, and where one doesn't ------------------------------------------------------------------------------

stopped_before : (front rest : List Obligation) → are_others front ≡ true → filter is_other rest ≡ [] → (a : List PlacedEntailment) (r : Refusal)
    → first_false (filter is_other (front ++ rest)) ≡ Some r → asked_among (front ++ rest) a ≡ []
stopped_before front rest others silent a r h =
    let looked : filter is_other (front ++ rest) ≡ filter is_other front =
    filter-append is_other front rest ∙ ap (λ l. filter is_other front ++ l) silent ∙ append-nil (filter is_other front) in
    asked_no_more front rest [] a (others_stop front r (ap first_false (sym looked) ∙ h)) (others_counted front others) ∙ asked_none front

nothing_kept : (u : Purpose) (front rest : List Obligation) → are_others front ≡ true → filter is_other rest ≡ [] → (a : List PlacedEntailment) (r : Refusal)
    → first_false (looked_at u (front ++ rest)) ≡ Some r → kept_for u (asked_among (front ++ rest) a) ≡ []
nothing_kept Judge front rest others silent a r h = refl
nothing_kept (Collect wanted) front rest others silent a r h = ap (kept_for (Collect wanted)) (stopped_before front rest others silent a r h)
nothing_kept (Search depth) front rest others silent a r h = ap (kept_for (Search depth)) (stopped_before front rest others silent a r h)

-- what was added is cut off again
pub cut_back : (start old new : List Kept) (added : List Item) (mark : ℕ) → length start ≡ mark → map view_kept old ≡ map view_kept start ++ added
    → new ≡ take mark old → map view_kept new ≡ map view_kept start
cut_back start old new added mark is grown cut =
    ap (map view_kept) cut ∙ sym (take-map view_kept mark old) ∙ ap (take mark) grown
    ∙ take_at (map view_kept start) added mark (length-map start view_kept ∙ is)

-- Obligations that aren't about certificates, that entailments and points are small, and what is about certificates.
module _ (u : Purpose) (p : Plain) (t at : ℕ) (proofs : List Proof) (n : ℕ) (gs : List Entailment) (points : List Point) (asked rest : List Obligation) (others : are_others asked ≡ true) where
  abbrev whole : List Obligation
  whole = asked ++ (small_terms p t at gs points ++ rest)

  module _ (k0 k1 : List Kept) (tried : Tried) (tries : Tries u at proofs n gs k0 k1 tried) (held : first_false (looked_at u whole) ≡ None) where
    pub all_tried : (tried.count ≡ length gs) × (tries.added ≡ kept_for u (asked_from at proofs n gs))
    all_tried =
        let sizes = small_terms p t at gs points in
        let behind = append_none asked (looked_at u (sizes ++ rest)) (ap first_false (sym (looked_front u asked (sizes ++ rest) others)) ∙ held) in
        let small = append_none sizes (looked_at u rest) (ap first_false (sym (looked_front u sizes rest refl)) ∙ behind.1) in
        let decided = tried_decided u p t at proofs n gs points k0 k1 tried tries small.0 in
        (decided.0, decided.2)

    -- each is counted, and what is wanted of them is kept
    pub concludes : entailment_obligations rest ≡ proved p t at proofs n gs → Passes u whole (placed_from at n gs) k0 k1
    concludes asks =
        let sizes = small_terms p t at gs points in
        let all : entailment_obligations whole ≡ proved p t at proofs n gs =
        asking-append asked (sizes ++ rest) ∙ ap (λ l. l ++ entailment_obligations (sizes ++ rest)) (others_ask asked others) ∙ asks in
        let is : beside (entailment_obligations whole) (placed_from at n gs) ≡ asked_from at proofs n gs =
        ap (λ es. beside es (placed_from at n gs)) all ∙ beside_proved p t at proofs n gs in (
          held,
          adds_all u whole (placed_from at n gs) k0 k1 held (tries.grown ∙ ap (λ l. map view_kept k0 ++ l) (all_tried.1 ∙ ap (kept_for u) (sym is))),
        )

  -- where one doesn't hold, what was added is dropped
  pub last_stops : filter is_other rest ≡ [] → (k k1 : List Kept) → map view_kept k1 ≡ map view_kept k → (fault : CheckFault)
      → Decides (looked_at u whole) (Err fault) → Stops u whole (placed_from at n gs) k k1 fault
  last_stops silent k k1 same (Refused r) h =
      let sizes = small_terms p t at gs points in
      let is = append_assoc asked sizes rest in (
        h,
        same ∙ adds_none u whole (placed_from at n gs) k
            (subst (λ o. kept_for u (asked_among o (placed_from at n gs)) ≡ []) is
            (nothing_kept u (asked ++ sizes) rest (others-append asked sizes others refl) silent (placed_from at n gs) r (ap (λ o. first_false (looked_at u o)) is ∙ h))),
      )
  last_stops silent k k1 same NoMemory h = tt
