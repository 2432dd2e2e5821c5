-- How far obligations are reached, and which entailments that leaves.
use Rattle.std.proofs.Common.{◌≡◌, ℕ, ◌+◌, List, [], ◌∷◌, ◌++◌, length, map, Bool, true, false, not, ◌&&◌, ◌||◌, cond, refl, sym, ap, ◌∙◌, arith, append_assoc, Some, None, Result, Ok, Err}
use Rattle.std.specs.Prelude.{filter}
use Rattle.std.proofs.Math.Bool.{or-true}
use Rattle.std.proofs.lemmas.Bool.{and_parts, not-true}
use Rattle.std.proofs.lemmas.List.{append-nil, nil_from_length}
use Rattle.std.proofs.lemmas.List.Elements.{filter-append}
use Rattle.std.proofs.lemmas.List.Folds.{list_all-append}
use Rattle.cov_ast.specs.Obligations.{Decides, Obligation, first_false}
use Rattle.cov_ast.specs.Plain.{Plain}
use Rattle.cov_ast.specs.declared.refusal.CheckFault.{CheckFault}
use Rattle.cov_ast.specs.declared.refusal.CheckFault.TheVariants.{Refused, NoMemory}
use Rattle.cov_ast.specs.declared.refusal.Refusal.{Refusal}
use Rattle.cov_ast.specs.declared.refusal.Rule.{Rule}
use Rattle.cov_ast.specs.declared.refusal.Rule.TheVariants.{W1, W2, W3, W4, W5, W6, W7, W8, W9, V1, V2, V3, V4, V5, V6, V7, V8, V9, V10, V11, V12, V13, V14, V15, V16}
use Rattle.cov_ast.proofs.ObligationLaws.{append_held, append_refused}
use Rattle.point_law.specs.Point.{Point}
use Rattle.typing_law.specs.Counts.{entailment_count, is_entailment}
use Rattle.typing_law.specs.ThreadEntailments.{PlacedEntailment, entailment_obligations, is_about_certificates}
use Rattle.typing_rules.specs.declared.kept.Kept.{Kept}
use Rattle.typing_law.proofs.Counting.{count_cons}
use Rattle.typing_rules.specs.Keeping.{are_others, are_passed, asked_among, beside, is_other, kept_for, looked_at, view_kept}
use Rattle.typing_rules.specs.Inside.Passing.{Adds, Passes, Stops}
use Rattle.typing_rules.specs.Inside.Walking.{Walks}
use Rattle.typing_rules.specs.declared.purpose.Purpose.{Purpose}
use Rattle.typing_rules.specs.declared.purpose.Purpose.TheVariants.{Judge, Collect, Search}
use Rattle.typing_rules.specs.declared.walk.Walked.{Walked}
use Rattle.typing_rules.proofs.AskedLaws.{asked_all, asked_no_more, asked_none, asked_then, asking_counted}
use Rattle.typing_rules.proofs.KeptLaws.{kept-append, kept_none}

-- Obligations that are passed --------------------------------------------------------------------------------------

held_passed : (es : List Obligation) → first_false es ≡ None → are_passed es ≡ true
held_passed [] h = refl
held_passed (e ∷ es) h = go (held_passed es) e.holds h
  where
    go : (first_false es ≡ None → are_passed es ≡ true) → (b : Bool) → cond b (first_false es) (Some e.refusal) ≡ None
        → ((b || is_about_certificates e.refusal.rule) && are_passed es) ≡ true
    go rest true h = rest h
    go rest false h = cc

-- the same of those that aren't about certificates
others_held : (es : List Obligation) → first_false (filter is_other es) ≡ None → are_passed es ≡ true
others_held [] h = refl
others_held (e ∷ es) h = go (others_held es) (is_about_certificates e.refusal.rule) h
  where
    held : (first_false (filter is_other es) ≡ None → are_passed es ≡ true) → (b : Bool)
        → cond b (first_false (filter is_other es)) (Some e.refusal) ≡ None → ((b || false) && are_passed es) ≡ true
    held rest true h = rest h
    held rest false h = cc

    go : (first_false (filter is_other es) ≡ None → are_passed es ≡ true) → (c : Bool)
        → first_false (cond (not c) (e ∷ filter is_other es) (filter is_other es)) ≡ None → ((e.holds || c) && are_passed es) ≡ true
    go rest true h = ap (λ v. v && are_passed es) (or-true e.holds) ∙ rest h
    go rest false h = held rest e.holds h

pub others_stop : (es : List Obligation) (r : Refusal) → first_false (filter is_other es) ≡ Some r → are_passed es ≡ false
others_stop [] r h = cc
others_stop (e ∷ es) r h = go (others_stop es r) (is_about_certificates e.refusal.rule) h
  where
    stops : (first_false (filter is_other es) ≡ Some r → are_passed es ≡ false) → (b : Bool)
        → cond b (first_false (filter is_other es)) (Some e.refusal) ≡ Some r → ((b || false) && are_passed es) ≡ false
    stops rest true h = rest h
    stops rest false h = refl

    go : (first_false (filter is_other es) ≡ Some r → are_passed es ≡ false) → (c : Bool)
        → first_false (cond (not c) (e ∷ filter is_other es) (filter is_other es)) ≡ Some r → ((e.holds || c) && are_passed es) ≡ false
    go rest true h = ap (λ v. v && are_passed es) (or-true e.holds) ∙ rest h
    go rest false h = stops rest e.holds h

pub others-append : (a b : List Obligation) → are_others a ≡ true → are_others b ≡ true → are_others (a ++ b) ≡ true
others-append a b h k = list_all-append is_other a b ∙ ap (λ c. c && are_others b) h ∙ k

-- an obligation that asks that something follows is about certificates
asks_nothing : (r : Rule) → is_about_certificates r ≡ false → is_entailment r ≡ false
asks_nothing W1 h = refl
asks_nothing W2 h = refl
asks_nothing W3 h = refl
asks_nothing W4 h = refl
asks_nothing W5 h = refl
asks_nothing W6 h = refl
asks_nothing W7 h = refl
asks_nothing W8 h = refl
asks_nothing W9 h = refl
asks_nothing V1 h = refl
asks_nothing V2 h = refl
asks_nothing V3 h = refl
asks_nothing V4 h = refl
asks_nothing V5 h = refl
asks_nothing V6 h = refl
asks_nothing V7 h = refl
asks_nothing V8 h = refl
asks_nothing V9 h = h
asks_nothing V10 h = refl
asks_nothing V11 h = refl
asks_nothing V12 h = refl
asks_nothing V13 h = refl
asks_nothing V14 h = refl
asks_nothing V15 h = refl
asks_nothing V16 h = refl

pub others_counted : (es : List Obligation) → are_others es ≡ true → entailment_count es ≡ 0
others_counted [] h = refl
others_counted (e ∷ es) h =
    let parts = and_parts (not (is_about_certificates e.refusal.rule)) (are_others es) h in
    let here : entailment_count (e ∷ []) ≡ 0 = ap (λ s. 0 + cond s 1 0) (asks_nothing e.refusal.rule (not-true (is_about_certificates e.refusal.rule) parts.0)) in
    omega (arith, count_cons e es, here, others_counted es parts.1)

pub others_ask : (es : List Obligation) → are_others es ≡ true → entailment_obligations es ≡ []
others_ask es h = nil_from_length (entailment_obligations es) (asking_counted es ∙ others_counted es h)

-- What a walk looks at ----------------------------------------------------------------------------------------------

pub looked-append : (u : Purpose) (a b : List Obligation) → looked_at u (a ++ b) ≡ looked_at u a ++ looked_at u b
looked-append Judge a b = refl
looked-append (Collect wanted) a b = filter-append is_other a b
looked-append (Search depth) a b = filter-append is_other a b

others_only : (a : List Obligation) → are_others a ≡ true → filter is_other a ≡ a
others_only [] h = refl
others_only (e ∷ es) h =
    let parts = and_parts (is_other e) (are_others es) h in
    ap (λ b. cond b (e ∷ filter is_other es) (filter is_other es)) parts.0 ∙ ap (λ fs. e ∷ fs) (others_only es parts.1)

pub others_looked : (u : Purpose) (a : List Obligation) → are_others a ≡ true → looked_at u a ≡ a
others_looked Judge a h = refl
others_looked (Collect wanted) a h = others_only a h
others_looked (Search depth) a h = others_only a h

looked_passed : (u : Purpose) (a : List Obligation) → first_false (looked_at u a) ≡ None → are_passed a ≡ true
looked_passed Judge a h = held_passed a h
looked_passed (Collect wanted) a h = others_held a h
looked_passed (Search depth) a h = others_held a h

-- What is kept -------------------------------------------------------------------------------------------------------

-- where nothing is reached that the walk keeps
pub adds_none : (u : Purpose) (o : List Obligation) (a : List PlacedEntailment) (k : List Kept) → kept_for u (asked_among o a) ≡ [] → Adds u o a k k
adds_none u o a k h = sym (ap (λ l. map view_kept k ++ l) h ∙ append-nil (map view_kept k))

-- no entailment is reached where there is none
pub no_entailments : (u : Purpose) (o : List Obligation) → kept_for u (asked_among o []) ≡ []
no_entailments u o = ap (kept_for u) (asked_none o) ∙ kept_none u

-- where there is no entailment
pub stops_bare : (u : Purpose) (o : List Obligation) (k : List Kept) (fault : CheckFault) → Decides (looked_at u o) (Err fault) → Stops u o [] k k fault
stops_bare u o k (Refused r) h = (h, adds_none u o [] k (no_entailments u o))
stops_bare u o k NoMemory h = tt

-- all entailments of obligations that hold
pub adds_all : (u : Purpose) (o : List Obligation) (a : List PlacedEntailment) (k0 k1 : List Kept) → first_false (looked_at u o) ≡ None
    → map view_kept k1 ≡ map view_kept k0 ++ kept_for u (beside (entailment_obligations o) a) → Adds u o a k0 k1
adds_all u o a k0 k1 h k = k ∙ ap (λ xs. map view_kept k0 ++ kept_for u xs) (sym (asked_all o a (looked_passed u o h)))

module _ (u : Purpose) (o1 o2 : List Obligation) (a1 a2 : List PlacedEntailment) (is : entailment_count o1 ≡ length a1) where
  -- one part and then another
  pub adds_then : (k0 k1 k2 : List Kept) → Passes u o1 a1 k0 k1 → Adds u o2 a2 k1 k2 → Adds u (o1 ++ o2) (a1 ++ a2) k0 k2
  adds_then k0 k1 k2 h k =
      let passed = looked_passed u o1 h.0 in
      let first = beside (entailment_obligations o1) a1 in
      let rest = asked_among o2 a2 in
      k ∙ ap (λ l. l ++ kept_for u rest) (h.1 ∙ ap (λ xs. map view_kept k0 ++ kept_for u xs) (asked_all o1 a1 passed))
      ∙ append_assoc (map view_kept k0) (kept_for u first) (kept_for u rest)
      ∙ ap (λ l. map view_kept k0 ++ l) (sym (kept-append u first rest) ∙ ap (kept_for u) (sym (asked_then o1 o2 a1 a2 passed is)))

  passes_then : (k0 k1 k2 : List Kept) → Passes u o1 a1 k0 k1 → Passes u o2 a2 k1 k2 → Passes u (o1 ++ o2) (a1 ++ a2) k0 k2
  passes_then k0 k1 k2 h k =
      (ap first_false (looked-append u o1 o2) ∙ append_held (looked_at u o1) (looked_at u o2) h.0 ∙ k.0, adds_then k0 k1 k2 h k.1)

  stops_then : (k0 k1 k2 : List Kept) (fault : CheckFault) → Passes u o1 a1 k0 k1 → Stops u o2 a2 k1 k2 fault → Stops u (o1 ++ o2) (a1 ++ a2) k0 k2 fault
  stops_then k0 k1 k2 (Refused r) h k =
      (ap first_false (looked-append u o1 o2) ∙ append_held (looked_at u o1) (looked_at u o2) h.0 ∙ k.0, adds_then k0 k1 k2 h k.1)
  stops_then k0 k1 k2 NoMemory h k = tt

  pub walks_then : (p : Plain) (t : ℕ) (end : Point) (counted : ℕ) (k0 k1 k2 : List Kept) (r : Result Walked CheckFault) → Passes u o1 a1 k0 k1
      → Walks u p t o2 a2 end counted k1 k2 r → Walks u p t (o1 ++ o2) (a1 ++ a2) end counted k0 k2 r
  walks_then p t end counted k0 k1 k2 (Ok walked) h k = (passes_then k0 k1 k2 h k.0, k.1, k.2)
  walks_then p t end counted k0 k1 k2 (Err fault) h k = stops_then k0 k1 k2 fault h k

-- nothing comes behind a part that stops
pub adds_stop : (u : Purpose) (o1 o2 : List Obligation) (a1 a2 : List PlacedEntailment) → entailment_count o1 ≡ length a1 → (k0 k1 : List Kept) (r : Refusal)
    → first_false (looked_at u o1) ≡ Some r → Adds u o1 a1 k0 k1 → Adds u (o1 ++ o2) (a1 ++ a2) k0 k1
adds_stop Judge o1 o2 a1 a2 is k0 k1 r h k = k
adds_stop (Collect wanted) o1 o2 a1 a2 is k0 k1 r h k =
    k ∙ ap (λ xs. map view_kept k0 ++ kept_for (Collect wanted) xs) (sym (asked_no_more o1 o2 a1 a2 (others_stop o1 r h) is))
adds_stop (Search depth) o1 o2 a1 a2 is k0 k1 r h k =
    k ∙ ap (λ xs. map view_kept k0 ++ kept_for (Search depth) xs) (sym (asked_no_more o1 o2 a1 a2 (others_stop o1 r h) is))

pub stops_behind : (u : Purpose) (o1 o2 : List Obligation) (a1 a2 : List PlacedEntailment) → entailment_count o1 ≡ length a1 → (k0 k1 : List Kept) (fault : CheckFault)
    → Stops u o1 a1 k0 k1 fault → Stops u (o1 ++ o2) (a1 ++ a2) k0 k1 fault
stops_behind u o1 o2 a1 a2 is k0 k1 (Refused r) h =
    (ap first_false (looked-append u o1 o2) ∙ append_refused (looked_at u o1) (looked_at u o2) (Refused r) h.0, adds_stop u o1 o2 a1 a2 is k0 k1 r h.0 h.1)
stops_behind u o1 o2 a1 a2 is k0 k1 NoMemory h = tt

-- a walk that judges looks at all
pub judge_stops : (o : List Obligation) (a : List PlacedEntailment) (k0 k1 : List Kept) (fault : CheckFault) → Stops Judge o a k0 k1 fault → Decides o (Err fault)
judge_stops o a k0 k1 (Refused r) h = h.0
judge_stops o a k0 k1 NoMemory h = tt

-- Obligations that aren't about certificates, before others ----------------------------------------------------------

module _ (u : Purpose) (front rest : List Obligation) (others : are_others front ≡ true) (a : List PlacedEntailment) where
  -- those that hold
  pub front_passes : (k : List Kept) → first_false front ≡ None → Passes u front [] k k
  front_passes k h = (ap first_false (others_looked u front others) ∙ h, adds_none u front [] k (no_entailments u front))

  pub front_walks : (p : Plain) (t : ℕ) (end : Point) (counted : ℕ) (k0 k1 : List Kept) (r : Result Walked CheckFault) → first_false front ≡ None
      → Walks u p t rest a end counted k0 k1 r → Walks u p t (front ++ rest) a end counted k0 k1 r
  front_walks p t end counted k0 k1 r h w = walks_then u front rest [] a (others_counted front others) p t end counted k0 k0 k1 r (front_passes k0 h) w

  -- one of which doesn't hold
  pub front_stops : (k : List Kept) (fault : CheckFault) → Decides front (Err fault) → Stops u (front ++ rest) a k k fault
  front_stops k (Refused r) h =
      stops_behind u front rest [] a (others_counted front others) k k (Refused r)
      (ap first_false (others_looked u front others) ∙ h, adds_none u front [] k (no_entailments u front))
  front_stops k NoMemory h = tt
