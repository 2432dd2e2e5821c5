-- Laws of lists in which no two expressions are equal, of their keys, and of indices in them.
use Rattle.std.proofs.Common.{◌≡◌, ◌<◌, ℕ, ◌+◌, zero, suc, List, [], ◌∷◌, ◌++◌, Bool, true, false, not, ◌||◌, Some, None, is_some, cond, ⊎_elim, if◌then◌else◌, nat_lt, get_or, length, map, position, remove, take, drop, refl, sym, ap, subst, ◌∙◌, arith}
use Rattle.std.specs.List.{AllByRecursion, IsDistinct, list_any, position_or_len}
use Rattle.std.specs.Str.{bytes_eq}
use Rattle.std.proofs.lemmas.Bool.{cases_lt, le-ltb, lt-ltb}
use Rattle.std.proofs.lemmas.Cmp.{nat_list_eq_equiv}
use Rattle.std.proofs.lemmas.List.{drop_more, map-append, map_more, take-append-drop}
use Rattle.std.proofs.lemmas.List.Sums.{position_or_len_is}
use Rattle.std.proofs.lemmas.Map.Keys.{IsDistinct-push}
use Rattle.cov_expr.specs.Term.{Term}
use Rattle.cov_expr.specs.Trees.{has_term}
use Rattle.cov_expr.specs.View.{term}
use Rattle.cov_expr.specs.declared.expr.Expr.{Expr}
use Rattle.indexmap.proofs.SetLemmas.{map-remove}
use Rattle.indexmap.specs.IndexSet.{insert_key}
use Rattle.typing_state.specs.Keys.{key}
use Rattle.typing_state.proofs.KeyLaws.{found_by_key}
use Rattle.typing_state.proofs.KeyedLaws.{absent}

-- what holds of each holds of those that are left
all_left : (P : List ℕ → Type 0) (ks : List (List ℕ)) (i : ℕ) → AllByRecursion P ks → AllByRecursion P (remove ks i)
all_left P [] zero h = tt
all_left P [] (suc i) h = tt
all_left P (k ∷ ks) zero h = h.1
all_left P (k ∷ ks) (suc i) h = (h.0, all_left P ks i h.1)

distinct_left : (ks : List (List ℕ)) (i : ℕ) → IsDistinct bytes_eq ks → IsDistinct bytes_eq (remove ks i)
unfolding IsDistinct
distinct_left [] zero h = tt
distinct_left [] (suc i) h = tt
distinct_left (k ∷ ks) zero h = h.1
distinct_left (k ∷ ks) (suc i) h = (all_left (λ y. bytes_eq k y ≡ false) ks i h.0, distinct_left ks i h.1)

-- the keys of those that are left
pub keys_left : (list new : List Expr) (index : ℕ) → new ≡ remove list index → remove (map key (map term list)) index ≡ map key (map term new)
keys_left list new index dropped =
    sym (ap (λ l. map key (map term l)) dropped ∙ ap (map key) (map-remove term list index) ∙ map-remove key (map term list) index)

-- and the keys with one more
pub keys_more : (list new : List Expr) (e : Expr) → new ≡ list ++ e ∷ [] → map key (map term list) ++ key (term e) ∷ [] ≡ map key (map term new)
keys_more list new e pushed =
    sym (ap (λ l. map key (map term l)) pushed ∙ ap (map key) (map-append term list (e ∷ [])) ∙ map-append key (map term list) (term e ∷ []))

-- of none no two are equal
pub distinct_none : (list : List Expr) → list ≡ [] → IsDistinct bytes_eq (map key (map term list))
unfolding IsDistinct
distinct_none list none = subst (λ l. IsDistinct bytes_eq (map key (map term l))) (sym none) tt

module _ (list : List Expr) (once : IsDistinct bytes_eq (map key (map term list))) where
  -- where one is dropped, no two of the others are equal
  pub distinct_dropped : (new : List Expr) (index : ℕ) → new ≡ remove list index → IsDistinct bytes_eq (map key (map term new))
  distinct_dropped new index dropped = subst (IsDistinct bytes_eq) (keys_left list new index dropped) (distinct_left (map key (map term list)) index once)

  -- nor where one is added that isn't there
  pub distinct_added : (new : List Expr) (e : Expr) → new ≡ list ++ e ∷ [] → has_term (map term list) (term e) ≡ false → IsDistinct bytes_eq (map key (map term new))
  distinct_added new e pushed none =
      subst (IsDistinct bytes_eq) (keys_more list new e pushed)
      (IsDistinct-push nat_list_eq_equiv (map key (map term list)) (key (term e)) once (found_by_key (map term list) (term e) ∙ none))

-- Look-ups -----------------------------------------------------------------------------------------------------

module _ (list : List Expr) (e : Expr) (index : ℕ) (inside : index < length list) (at : e ≡ get_or list index e) where
  -- one more of a list in which no two are equal isn't there yet
  pub next_is_new : IsDistinct bytes_eq (map key (map term list)) → has_term (map term (take index list)) (term e) ≡ false
  next_is_new once =
      absent (map term (take index list)) (term e) (map term (drop (index + 1) list)) (subst (λ es. IsDistinct bytes_eq (map key es)) whole once)
    where
      parts : list ≡ take index list ++ e ∷ drop (index + 1) list
      parts = sym (take-append-drop index list) ∙ ap (λ l. take index list ++ l) (drop_more list index e inside ∙ ap (λ f. f ∷ drop (index + 1) list) (sym at))

      whole : map term list ≡ map term (take index list) ++ term e ∷ map term (drop (index + 1) list)
      whole = ap (map term) parts ∙ map-append term (take index list) (e ∷ drop (index + 1) list)

  -- so its key goes last
  pub next_key : (keys after : List (List ℕ)) (k : List ℕ) → IsDistinct bytes_eq (map key (map term list)) → keys ≡ map key (map term (take index list)) → k ≡ key (term e)
      → after ≡ insert_key bytes_eq keys k → after ≡ map key (map term (take (index + 1) list))
  next_key keys after k once so_far is added =
      added ∙ (λ i. insert_key bytes_eq (so_far i) (is i))
      ∙ ap (λ b. if b then map key (map term (take index list)) else map key (map term (take index list)) ++ key (term e) ∷ [])
      (found_by_key (map term (take index list)) (term e) ∙ next_is_new once)
      ∙ sym (ap (map key) (map_more term list index e inside ∙ ap (λ f. map term (take index list) ++ term f ∷ []) (sym at)) ∙ map-append key (map term (take index list)) (term e ∷ []))

-- Comparing one by one -----------------------------------------------------------------------------------------

module _ (p : Term → Bool) (ts : List Term) (i : ℕ) (d : Term) (before : (k : ℕ) → k < i → p (get_or ts k d) ≡ false) where
  -- the first one that passes
  pub first_there : i < length ts → p (get_or ts i d) ≡ true → Some i ≡ position p ts
  first_there inside passes =
      let at : position_or_len p ts ≡ i = position_or_len_is p ts i d (omega (arith, inside)) before (λ _. passes) in
      sym ((λ j. cond (nat_lt (at j) (length ts)) (Some (at j)) None) ∙ ap (λ b. cond b (Some i) None) (lt-ltb i (length ts) inside))

  -- none passes
  pub none_there : i ≡ length ts → None ≡ position p ts
  none_there all =
      let at : position_or_len p ts ≡ i = position_or_len_is p ts i d (omega (arith, all)) before (λ inside. absurd (omega (arith, inside, all))) in
      sym ((λ j. cond (nat_lt (at j) (length ts)) (Some (at j)) None) ∙ ap (λ b. cond b (Some i) None) (le-ltb i (length ts) (omega (arith, all))))

  -- one more doesn't pass
  pub next_fails : p (get_or ts i d) ≡ false → (k : ℕ) → k < i + 1 → p (get_or ts k d) ≡ false
  next_fails fails k lt =
      ⊎_elim (λ below. before k below) (λ above. subst (λ n. p (get_or ts n d) ≡ false) (omega (arith, lt, above)) fails) (cases_lt k i)

-- whether one passes is told by whether there is a first one
pub found_is_there : (p : Term → Bool) (ts : List Term) → is_some (position p ts) ≡ list_any p ts
found_is_there p ts = is_some_where (nat_lt (position_or_len p ts) (length ts)) (position_or_len p ts) ∙ any ts
  where
    is_some_where : (b : Bool) (n : ℕ) → is_some (cond b (Some n) None) ≡ b
    is_some_where true n = refl
    is_some_where false n = refl

    next : (b : Bool) (n m : ℕ) → nat_lt (cond (not b) (1 + n) 0) (suc m) ≡ (b || nat_lt n m)
    next true n m = lt-ltb 0 (suc m) (omega arith)
    next false n m =
        ⊎_elim (λ l. lt-ltb (1 + n) (suc m) (omega (arith, l)) ∙ sym (lt-ltb n m l)) (λ g. le-ltb (1 + n) (suc m) (omega (arith, g)) ∙ sym (le-ltb n m g)) (cases_lt n m)

    any : (ts : List Term) → nat_lt (position_or_len p ts) (length ts) ≡ list_any p ts
    any [] = refl
    any (t ∷ ts) = next (p t) (position_or_len p ts) (length ts) ∙ ap (λ b. p t || b) (any ts)
