-- Laws of what is asked: entailments, each beside the obligation that asks for it.
use Rattle.std.proofs.Common.{◌≡◌, ℕ, suc, ◌+◌, ◌≤◌, List, [], ◌∷◌, ◌++◌, length, map, take, Bool, true, false, cond, refl, ap, ◌∙◌, arith}
use Rattle.std.proofs.lemmas.List.Elements.{filter-append}
use Rattle.cov_ast.specs.Obligations.{Obligation}
use Rattle.cov_ast.specs.Plain.{Plain}
use Rattle.cov_ast.specs.Syntax.{Proof}
use Rattle.typing_law.specs.Counts.{entailment_count, is_entailment}
use Rattle.typing_law.specs.Entailments.{Entailment}
use Rattle.typing_law.specs.ThreadEntailments.{PlacedEntailment, entailment_obligations, placed_from, reached, reached_entailments}
use Rattle.typing_law.specs.ThreadObligations.{proved}
use Rattle.typing_law.proofs.Counting.{count_cons}
use Rattle.typing_law.proofs.Reached.{reached_all, reached_few, reached_passed, reached_stopped}
use Rattle.typing_rules.specs.Inside.Walking.{asked_from}
use Rattle.typing_rules.specs.Keeping.{are_passed, asked_among, beside}

-- there are as many obligations that ask for something as are counted
pub asking_counted : (es : List Obligation) → length (entailment_obligations es) ≡ entailment_count es
asking_counted [] = refl
asking_counted (e ∷ es) = go (is_entailment e.refusal.rule) refl (asking_counted es)
  where
    go : (b : Bool) → is_entailment e.refusal.rule ≡ b → length (entailment_obligations es) ≡ entailment_count es
        → length (cond b (e ∷ entailment_obligations es) (entailment_obligations es)) ≡ entailment_count (e ∷ es)
    go true is h =
        let here : entailment_count (e ∷ []) ≡ 1 = ap (λ s. 0 + cond s 1 0) is in
        omega (arith, count_cons e es, here, h)
    go false is h =
        let here : entailment_count (e ∷ []) ≡ 0 = ap (λ s. 0 + cond s 1 0) is in
        omega (arith, count_cons e es, here, h)

pub asking-append : (a b : List Obligation) → entailment_obligations (a ++ b) ≡ entailment_obligations a ++ entailment_obligations b
asking-append a b = filter-append (λ e. is_entailment e.refusal.rule) a b

pub proved_asks : (p : Plain) (t at : ℕ) (proofs : List Proof) (n : ℕ) (gs : List Entailment)
    → entailment_obligations (proved p t at proofs n gs) ≡ proved p t at proofs n gs
proved_asks p t at proofs n [] = refl
proved_asks p t at proofs n (g ∷ gs) = ap (λ l. proved p t at proofs n (g ∷ []) ++ l) (proved_asks p t at proofs (suc n) gs)

-- Lists beside each other ----------------------------------------------------------------------------------------

beside-append : (es fs : List Obligation) (gs hs : List PlacedEntailment) → length es ≡ length gs → beside (es ++ fs) (gs ++ hs) ≡ beside es gs ++ beside fs hs
beside-append [] fs [] hs h = refl
beside-append [] fs (g ∷ gs) hs h = absurd (omega (arith, h))
beside-append (e ∷ es) fs [] hs h = absurd (omega (arith, h))
beside-append (e ∷ es) fs (g ∷ gs) hs h =
    let same : length es ≡ length gs = omega (arith, h) in
    ap (λ l. record { listed = g; proved = e.holds } ∷ l) (beside-append es fs gs hs same)

-- what is behind has no part in it
beside_first : (es : List Obligation) (gs hs : List PlacedEntailment) → length es ≤ length gs → beside es (gs ++ hs) ≡ beside es gs
beside_first [] gs hs h = refl
beside_first (e ∷ es) [] hs h = absurd (omega (arith, h))
beside_first (e ∷ es) (g ∷ gs) hs h =
    let fewer : length es ≤ length gs = omega (arith, h) in
    ap (λ l. record { listed = g; proved = e.holds } ∷ l) (beside_first es gs hs fewer)

-- the entailments are those that stand first
pub beside_listed : (es : List Obligation) (gs : List PlacedEntailment) → map (λ a. a.listed) (beside es gs) ≡ take (length es) gs
beside_listed [] gs = refl
beside_listed (e ∷ es) [] = refl
beside_listed (e ∷ es) (g ∷ gs) = ap (λ l. g ∷ l) (beside_listed es gs)

-- What is asked --------------------------------------------------------------------------------------------------

-- the entailments that are asked for are those that are reached
pub asked_reached : (o : List Obligation) (a : List PlacedEntailment) → map (λ b. b.listed) (asked_among o a) ≡ reached_entailments o a
asked_reached o a = beside_listed (entailment_obligations (reached o)) a ∙ ap (λ n. take n a) (asking_counted (reached o))

-- each is reached where obligations are passed
pub asked_all : (o : List Obligation) (a : List PlacedEntailment) → are_passed o ≡ true → asked_among o a ≡ beside (entailment_obligations o) a
asked_all o a h = ap (λ es. beside (entailment_obligations es) a) (reached_all o h)

pub asked_then : (o1 o2 : List Obligation) (a1 a2 : List PlacedEntailment) → are_passed o1 ≡ true → entailment_count o1 ≡ length a1
    → asked_among (o1 ++ o2) (a1 ++ a2) ≡ beside (entailment_obligations o1) a1 ++ asked_among o2 a2
asked_then o1 o2 a1 a2 h is =
    ap (λ es. beside (entailment_obligations es) (a1 ++ a2)) (reached_passed o1 o2 h)
    ∙ ap (λ es. beside es (a1 ++ a2)) (asking-append o1 (reached o2))
    ∙ beside-append (entailment_obligations o1) (entailment_obligations (reached o2)) a1 a2 (asking_counted o1 ∙ is)

pub asked_no_more : (o1 o2 : List Obligation) (a1 a2 : List PlacedEntailment) → are_passed o1 ≡ false → entailment_count o1 ≡ length a1
    → asked_among (o1 ++ o2) (a1 ++ a2) ≡ asked_among o1 a1
asked_no_more o1 o2 a1 a2 h is =
    let few : length (entailment_obligations (reached o1)) ≤ length a1 = omega (arith, asking_counted (reached o1), reached_few o1, is) in
    ap (λ es. beside (entailment_obligations es) (a1 ++ a2)) (reached_stopped o1 o2 h)
    ∙ beside_first (entailment_obligations (reached o1)) a1 a2 few

-- nothing is asked where there is no entailment
pub asked_none : (o : List Obligation) → asked_among o [] ≡ []
asked_none o = go (entailment_obligations (reached o))
  where
    go : (es : List Obligation) → beside es [] ≡ []
    go [] = refl
    go (e ∷ es) = refl

-- Those of a statement -------------------------------------------------------------------------------------------

pub beside_proved : (p : Plain) (t at : ℕ) (proofs : List Proof) (n : ℕ) (gs : List Entailment)
    → beside (proved p t at proofs n gs) (placed_from at n gs) ≡ asked_from at proofs n gs
beside_proved p t at proofs n [] = refl
beside_proved p t at proofs n (g ∷ gs) = ap (λ l. asked_from at proofs n (g ∷ []) ++ l) (beside_proved p t at proofs (suc n) gs)

pub asked-append : (at : ℕ) (proofs : List Proof) (n : ℕ) (gs hs : List Entailment)
    → asked_from at proofs n (gs ++ hs) ≡ asked_from at proofs n gs ++ asked_from at proofs (n + length gs) hs
asked-append at proofs n [] hs = let e : n ≡ n + 0 = omega arith in ap (λ m. asked_from at proofs m hs) e
asked-append at proofs n (g ∷ gs) hs =
    let e : suc n + length gs ≡ n + suc (length gs) = omega arith in
    ap (λ l. asked_from at proofs n (g ∷ []) ++ l) (asked-append at proofs (suc n) gs hs ∙ ap (λ m. asked_from at proofs (suc n) gs ++ asked_from at proofs m hs) e)
