-- Laws of the keys of expressions that stand in the same order.
use Rattle.std.proofs.Common.{◌≡◌, ℕ, ◌+◌, ◌<◌, length, get_or, List, [], ◌∷◌, ◌++◌, Bool, true, false, not, cond, map, Some, None, position, remove, take, drop, nat_lt, true≢false, refl, sym, ap, subst, ◌∙◌, append_assoc, append-nil, if◌then◌else◌}
use Rattle.std.specs.List.{AllByRecursion, IsDistinct, list_any, position_or_len, AllZip}
use Rattle.std.specs.Str.{bytes_eq}
use Rattle.std.proofs.lemmas.Bool.{false_from_ne_true, or_from}
use Rattle.std.proofs.lemmas.List.{map-append, length-map, map_more, take-append-drop}
use Rattle.std.proofs.lemmas.List.Recursion.{is_position_or_len}
use Rattle.cov_expr.specs.Term.{Term}
use Rattle.cov_expr.proofs.Trees.{same_is, same_refl}
use Rattle.cov_expr.specs.Trees.{has_term, same}
use Rattle.cov_expr.specs.View.{term}
use Rattle.cov_expr.specs.declared.expr.Expr.{Expr}
use Rattle.indexmap.proofs.SetLemmas.{map-remove}
use Rattle.typing_state.specs.Keys.{key}
use Rattle.point_law.specs.Terms.{distinct_terms, with_term, with_terms}
use Rattle.typing_state.proofs.KeyLaws.{found_by_key, keys_same}
use Rattle.typing_state.proofs.TyLaws.{with_terms-append}

-- Look-ups -----------------------------------------------------------------------------------------------------

first_by_key : (es : List Term) (e : Term) → position_or_len (bytes_eq (key e)) (map key es) ≡ position_or_len (λ f. same f e) es
first_by_key es e =
    is_position_or_len (λ fs. position_or_len (bytes_eq (key e)) (map key fs)) (λ f. same f e) refl
    (λ f fs. ap (λ b. cond (not b) (1 + position_or_len (bytes_eq (key e)) (map key fs)) 0) (keys_same e f)
    ∙ turned (same f e) (1 + position_or_len (bytes_eq (key e)) (map key fs)))
    es
  where
    turned : (b : Bool) (n : ℕ) → cond (not b) n 0 ≡ cond b 0 n
    turned true n = refl
    turned false n = refl

-- an expression has the index of its key
position_by_key : (es : List Term) (e : Term) → position (bytes_eq (key e)) (map key es) ≡ position (λ f. same f e) es
position_by_key es e = λ i. cond (nat_lt (first_by_key es e i) (length-map es key i)) (Some (first_by_key es e i)) None

module _ (keys : List (List ℕ)) (list : List Expr) (keyed : keys ≡ map key (map term list)) where
  module _ (seen : List Expr) (e : Term) (k : List ℕ) (shown : list ≡ seen) (is : k ≡ key e) where
    pub keyed_position : position (bytes_eq k) keys ≡ position (λ f. same f e) (map term seen)
    keyed_position = (λ i. position (bytes_eq (is i)) (keyed i)) ∙ position_by_key (map term list) e ∙ ap (λ es. position (λ f. same f e) (map term es)) shown

    -- whether a key is there says whether the expression is
    pub keyed_found : list_any (bytes_eq k) keys ≡ has_term (map term seen) e
    keyed_found = (λ i. list_any (bytes_eq (is i)) (keyed i)) ∙ found_by_key (map term list) e ∙ ap (λ es. has_term (map term es) e) shown

-- an expression that isn't there is added
pub with_new : (es : List Expr) (new : List Expr) (old : List Expr) (e : Expr) → es ≡ old → new ≡ es ++ e ∷ [] → has_term (map term old) (term e) ≡ false
    → map term new ≡ with_term (map term old) (term e)
with_new es new old e shown pushed none =
    ap (map term) (pushed ∙ ap (λ l. l ++ e ∷ []) shown) ∙ map-append term old (e ∷ [])
    ∙ sym (ap (λ b. if b then map term old else map term old ++ term e ∷ []) none)

-- Each once ----------------------------------------------------------------------------------------------------

-- what holds of the keys of a list holds of one among them
of_one : (P : List ℕ → Type 0) (es : List Term) (t : Term) (ts : List Term) → AllByRecursion P (map key (es ++ t ∷ ts)) → P (key t)
of_one P [] t ts h = h.0
of_one P (e ∷ es) t ts h = of_one P es t ts h.1

-- an expression isn't among those before it, where no two keys are equal
pub absent : (es : List Term) (t : Term) (ts : List Term) → IsDistinct bytes_eq (map key (es ++ t ∷ ts)) → has_term es t ≡ false
unfolding IsDistinct
absent [] t ts h = refl
absent (e ∷ es) t ts h =
    or_from (same e t) (has_term es t)
    (false_from_ne_true (same e t) (λ k. let is : e ≡ t = same_is e t k in
    true≢false (sym (keys_same e t ∙ ap (λ d. same t d) is ∙ same_refl t) ∙ of_one (λ y. bytes_eq (key e) y ≡ false) es t ts h.0)))
    (absent es t ts h.1)

-- those are each there once
once_from : (es ts : List Term) → IsDistinct bytes_eq (map key (es ++ ts)) → with_terms es ts ≡ es ++ ts
once_from es [] h = sym (append-nil es)
once_from es (t ∷ ts) h =
    ap (λ l. with_terms l ts) (ap (λ b. if b then es else es ++ t ∷ []) (absent es t ts h))
    ∙ once_from (es ++ t ∷ []) ts (subst (λ l. IsDistinct bytes_eq (map key l)) (sym (append_assoc es (t ∷ []) ts)) h) ∙ append_assoc es (t ∷ []) ts

pub each_once : (keys : List (List ℕ)) (ts : List Term) → keys ≡ map key ts → IsDistinct bytes_eq keys → distinct_terms ts ≡ ts
each_once keys ts keyed h = once_from [] ts (subst (IsDistinct bytes_eq) keyed h)

-- two lists begin alike with one more
pub begin_more : (es fs : List Expr) (k : ℕ) (e f : Expr) → k < length es → k < length fs → e ≡ get_or es k e → f ≡ get_or fs k f → term e ≡ term f
    → map term (take k es) ≡ map term (take k fs) → map term (take (k + 1) es) ≡ map term (take (k + 1) fs)
begin_more es fs k e f in_es in_fs at_e at_f equal h =
    let last = ap term (sym at_e) ∙ equal ∙ ap term at_f in
    map_more term es k e in_es ∙ (λ i. h i ++ last i ∷ []) ∙ sym (map_more term fs k f in_fs)

-- those that two lists begin with are there, and the rest of one is added
pub replaced : (es left preds : List Expr) (k : ℕ) → left ≡ take k es → map term (take k es) ≡ map term (take k preds) → distinct_terms (map term left) ≡ map term left
    → with_terms (map term left) (map term (drop k preds)) ≡ distinct_terms (map term preds)
replaced es left preds k cut alike once =
    ap (λ l. with_terms l (map term (drop k preds))) (sym once ∙ ap (λ l. distinct_terms (map term l)) cut ∙ ap distinct_terms alike)
    ∙ sym (with_terms-append [] (map term (take k preds)) (map term (drop k preds)))
    ∙ ap distinct_terms (sym (map-append term (take k preds) (drop k preds)) ∙ ap (map term) (take-append-drop k preds))
