-- Laws of lists from which items are dropped, the last first, and of how many of their items pass a test.
use Rattle.std.proofs.Common.{◌≡◌, ℕ, suc, Some, map, slice_get, ◌+◌, ◌-◌, ◌<◌, ◌≤◌, List, [], ◌∷◌, ◌++◌, Bool, true, false, not, cond, ◌&&◌, ◌||◌, nat_eq, nat_lt, length, get_or, take, drop, remove, refl, sym, ap, ◌∙◌, append_assoc, append-nil, add-one, drop-cons, arith}
use Rattle.std.specs.Prelude.{filter}
use Rattle.std.specs.List.{count_by, list_all, list_any}
use Rattle.std.proofs.lemmas.Bool.{lt-ltb, ne_eqb}
use Rattle.std.proofs.lemmas.List.{get_or-map, length-map, map-append, length-take-le, take-append-drop, take-append-le, take_all}
use Rattle.std.proofs.lemmas.List.Edits.{length-remove}
use Rattle.std.proofs.lemmas.List.Elements.{filter_more}
use Rattle.std.proofs.lemmas.List.Sums.{sum_by-cons, sum_by-remove, sum_by_push}
use Rattle.std.proofs.lemmas.Option.{get_or_from_slice_get, slice_get_within}
use Rattle.std.proofs.Math.Seq.{take-append_seam, drop-append_seam, take-length, drop-length}
use Rattle.cov_expr.specs.Term.{Term}
use Rattle.cov_expr.specs.View.{term}
use Rattle.cov_expr.specs.declared.expr.Expr.{Expr}
use Rattle.indexmap.proofs.SetLemmas.{map-remove}

-- from a index on, those that are left stand as they did; of those before it each that passes the test is to stay
abbrev pub left_from : (Term → Bool) → List Term → ℕ → List Term
left_from f ts i = filter f (take i ts) ++ drop i ts

module _ (f : Term → Bool) (ts : List Term) where
  -- none is looked at yet
  pub left_whole : (i : ℕ) → i ≡ length ts → left_from f ts i ≡ filter f ts
  left_whole i all =
      ap (left_from f ts) all ∙ (λ k. filter f (take-length ts k) ++ drop-length ts k) ∙ append-nil (filter f ts)

  seen : (i : ℕ) (d : Term) (b : Bool) → i < length ts → f (get_or ts i d) ≡ b
      → left_from f ts (i + 1) ≡ (filter f (take i ts) ++ cond b (get_or ts i d ∷ []) []) ++ drop (suc i) ts
  seen i d b inside tested =
      (λ k. filter_more f ts i d inside k ++ drop (add-one i k) ts)
      ∙ ap (λ b. (filter f (take i ts) ++ cond b (get_or ts i d ∷ []) []) ++ drop (suc i) ts) tested

  -- one that passes the test stays
  pub left_kept : (i : ℕ) (d : Term) → i < length ts → f (get_or ts i d) ≡ true → left_from f ts (i + 1) ≡ left_from f ts i
  left_kept i d inside passes =
      seen i d true inside passes ∙ append_assoc (filter f (take i ts)) (get_or ts i d ∷ []) (drop (suc i) ts)
      ∙ ap (λ l. filter f (take i ts) ++ l) (sym (drop-cons ts i d inside))

  -- another one is dropped
  pub left_dropped : (i : ℕ) (d : Term) → i < length ts → f (get_or ts i d) ≡ false → left_from f ts (i + 1) ≡ left_from f (remove ts i) i
  left_dropped i d inside fails =
      let front = take i ts in
      let back = drop (suc i) ts in
      let long : length front ≡ i = length-take-le i ts (omega arith) in
      seen i d false inside fails ∙ ap (λ l. l ++ back) (append-nil (filter f front))
      ∙ sym (ap (left_from f (front ++ back)) (sym long) ∙ (λ k. filter f (take-append_seam front back k) ++ drop-append_seam front back k))

-- How many pass a test -----------------------------------------------------------------------------------------

module _ (f : Term → Bool) where
  -- whether any does
  pub any_counted : (ts : List Term) → nat_lt 0 (count_by f ts) ≡ list_any f ts
  any_counted [] = refl
  any_counted (t ∷ ts) = ap (nat_lt 0) (sum_by-cons (λ e. cond (f e) 1 0) t ts) ∙ one (f t) (count_by f ts) ∙ ap (λ b. f t || b) (any_counted ts)
    where
      one : (b : Bool) (n : ℕ) → nat_lt 0 (cond b 1 0 + n) ≡ (b || nat_lt 0 n)
      one true n = lt-ltb 0 (1 + n) (omega arith)
      one false n = ap (nat_lt 0) (omega arith)

  -- whether none fails
  pub all_counted : (ts : List Term) → nat_eq (count_by (λ e. not (f e)) ts) 0 ≡ list_all f ts
  all_counted [] = refl
  all_counted (t ∷ ts) =
      ap (λ n. nat_eq n 0) (sum_by-cons (λ e. cond (not (f e)) 1 0) t ts) ∙ one (f t) (count_by (λ e. not (f e)) ts) ∙ ap (λ b. f t && b) (all_counted ts)
    where
      one : (b : Bool) (n : ℕ) → nat_eq (cond (not b) 1 0 + n) 0 ≡ (b && nat_eq n 0)
      one true n = ap (λ m. nat_eq m 0) (omega arith)
      one false n = ne_eqb (1 + n) 0 (λ e. absurd (omega (arith, e)))

  -- one that is taken out
  pub counted_less : (es new : List Expr) (i : ℕ) (e : Expr) (n : ℕ) → slice_get es i ≡ Some e → new ≡ remove es i → n ≡ cond (f (term e)) 1 0
      → count_by f (map term new) + n ≡ count_by f (map term es)
  counted_less es new i e n at gone one =
      let inside : i < length es = slice_get_within es i e at in
      (λ k. count_by f (map term (gone k)) + one k) ∙ ap (λ l. count_by f l + cond (f (term e)) 1 0) (map-remove term es i)
      ∙ ap (λ t. count_by f (remove (map term es) i) + cond (f t) 1 0) (sym (get_or-map term es i e (term e) inside ∙ ap term (get_or_from_slice_get es i e e at)))
      ∙ sum_by-remove (λ t. cond (f t) 1 0) (map term es) i (term e) (omega (arith, length-map es term))

  -- and one that is added
  pub counted_more : (es new : List Expr) (e : Expr) (n m : ℕ) → new ≡ es ++ e ∷ [] → n ≡ count_by f (map term es) → m ≡ cond (f (term e)) 1 0 → n + m ≡ count_by f (map term new)
  counted_more es new e n m added before one =
      (λ k. before k + one k) ∙ sym (ap (λ l. count_by f (map term l)) added ∙ ap (count_by f) (map-append term es (e ∷ [])) ∙ sum_by_push (λ t. cond (f t) 1 0) (map term es) (term e))

-- Steps of a walk from the last index to the first --------------------------------------------------------------

module _ (es : List Expr) (end : ℕ) (some : 0 < end) (within : end ≤ length es) where
  -- what is before the next index is still there
  pub dropped_within : (new : List Expr) → new ≡ remove es (end - 1) → end - 1 ≤ length new
  dropped_within new gone = omega (arith, ap length gone, length-remove es (end - 1) (omega arith))

  module _ (f : Term → Bool) (e : Expr) (whole : List Term) (at : e ≡ get_or es (end - 1) e) (so_far : left_from f (map term es) end ≡ whole) where
    last_is : get_or (map term es) (end - 1) (term e) ≡ term e
    last_is = get_or-map term es (end - 1) e (term e) (omega arith) ∙ ap term (sym at)

    inside : end - 1 < length (map term es)
    inside = omega (arith, length-map es term)

    next : end - 1 + 1 ≡ end
    next = omega arith

    pub kept_at : f (term e) ≡ true → left_from f (map term es) (end - 1) ≡ whole
    kept_at passes = sym (left_kept f (map term es) (end - 1) (term e) inside (ap f last_is ∙ passes)) ∙ ap (left_from f (map term es)) next ∙ so_far

    pub dropped_at : (new : List Expr) → new ≡ remove es (end - 1) → f (term e) ≡ false → left_from f (map term new) (end - 1) ≡ whole
    dropped_at new gone fails =
        ap (λ l. left_from f (map term l) (end - 1)) gone ∙ ap (λ l. left_from f l (end - 1)) (map-remove term es (end - 1))
        ∙ sym (left_dropped f (map term es) (end - 1) (term e) inside (ap f last_is ∙ fails)) ∙ ap (left_from f (map term es)) next ∙ so_far

-- Those from a index on are dropped ----------------------------------------------------------------------------

-- the last one goes
pub cut_step : (es new : List Expr) (end len : ℕ) → length es ≡ end → len < end → new ≡ remove es (end - 1)
    → (length new ≡ end - 1) × (take len new ≡ take len es)
cut_step es new end len long more gone =
    let i = end - 1 in
    let inside : len ≤ length (take i es) = omega (arith, length-take-le i es (omega arith)) in (
      omega (arith, ap length gone, length-remove es i (omega arith)),
      ap (take len) gone ∙ take-append-le len (take i es) (drop (suc i) es) inside ∙ sym (take-append-le len (take i es) (drop i es) inside) ∙ ap (take len) (take-append-drop i es),
    )

-- until so many are left
pub cut_end : (es whole : List Expr) (len : ℕ) → length es ≤ len → take len es ≡ whole → es ≡ whole
cut_end es whole len short e = sym (take_all len es short) ∙ e
