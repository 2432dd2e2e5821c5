-- How far obligations are reached, and which entailments that leaves.
use Rattle.std.proofs.Common.{◌≡◌, ◌+◌, ◌≤◌, List, [], ◌∷◌, ◌++◌, length, take, Bool, true, false, ◌&&◌, cond, refl, sym, ap, ◌∙◌, arith}
use Rattle.std.specs.List.{list_all}
use Rattle.std.proofs.Math.Seq.{take-append-add}
use Rattle.std.proofs.lemmas.Bool.{and_parts}
use Rattle.std.proofs.lemmas.List.{append-nil, take-append-le, take_all}
use Rattle.cov_ast.specs.Obligations.{Obligation}
use Rattle.typing_law.specs.Counts.{entailment_count}
use Rattle.typing_law.specs.ThreadEntailments.{PlacedEntailment, is_passed, reached, reached_entailments}
use Rattle.typing_law.proofs.Counting.{count_append, count_cons}

pub reached_passed : (a b : List Obligation) → list_all is_passed a ≡ true → reached (a ++ b) ≡ a ++ reached b
reached_passed [] b h = refl
reached_passed (e ∷ es) b h =
    let parts = and_parts (is_passed e) (list_all is_passed es) h in
    ap (λ v. cond v (e ∷ reached (es ++ b)) []) parts.0 ∙ ap (λ fs. e ∷ fs) (reached_passed es b parts.1)

pub reached_all : (a : List Obligation) → list_all is_passed a ≡ true → reached a ≡ a
reached_all a h = ap reached (sym (append-nil a)) ∙ reached_passed a [] h ∙ append-nil a

pub reached_stopped : (a b : List Obligation) → list_all is_passed a ≡ false → reached (a ++ b) ≡ reached a
reached_stopped [] b h = cc
reached_stopped (e ∷ es) b h = go (reached_stopped es b) (is_passed e) h
  where
    go : (list_all is_passed es ≡ false → reached (es ++ b) ≡ reached es) → (v : Bool) → (v && list_all is_passed es) ≡ false
        → cond v (e ∷ reached (es ++ b)) [] ≡ cond v (e ∷ reached es) []
    go rest true h = ap (λ fs. e ∷ fs) (rest h)
    go rest false h = refl

pub reached_few : (es : List Obligation) → entailment_count (reached es) ≤ entailment_count es
reached_few [] = omega arith
reached_few (e ∷ es) = go (reached_few es) (is_passed e)
  where
    go : entailment_count (reached es) ≤ entailment_count es → (v : Bool) → entailment_count (cond v (e ∷ reached es) []) ≤ entailment_count (e ∷ es)
    go rest true = omega (arith, count_cons e (reached es), count_cons e es, rest)
    go rest false = omega arith

-- Entailments that are reached ---------------------------------------------------------------------------------------

pub all_reached : (o : List Obligation) (a : List PlacedEntailment) → list_all is_passed o ≡ true → entailment_count o ≡ length a → reached_entailments o a ≡ a
all_reached o a h is = ap (λ es. take (entailment_count es) a) (reached_all o h) ∙ take_all (entailment_count o) a (omega (arith, is))

pub reached_then : (o1 o2 : List Obligation) (a1 a2 : List PlacedEntailment) → list_all is_passed o1 ≡ true → entailment_count o1 ≡ length a1
    → reached_entailments (o1 ++ o2) (a1 ++ a2) ≡ a1 ++ reached_entailments o2 a2
reached_then o1 o2 a1 a2 h is =
    let n : entailment_count (reached (o1 ++ o2)) ≡ length a1 + entailment_count (reached o2) =
    ap entailment_count (reached_passed o1 o2 h) ∙ count_append o1 (reached o2) ∙ ap (λ m. m + entailment_count (reached o2)) is in
    ap (λ m. take m (a1 ++ a2)) n ∙ take-append-add a1 a2 (entailment_count (reached o2))

pub reached_no_more : (o1 o2 : List Obligation) (a1 a2 : List PlacedEntailment) → list_all is_passed o1 ≡ false → entailment_count o1 ≡ length a1
    → reached_entailments (o1 ++ o2) (a1 ++ a2) ≡ reached_entailments o1 a1
reached_no_more o1 o2 a1 a2 h is =
    ap (λ es. take (entailment_count es) (a1 ++ a2)) (reached_stopped o1 o2 h)
    ∙ take-append-le (entailment_count (reached o1)) a1 a2 (omega (arith, reached_few o1, is))
