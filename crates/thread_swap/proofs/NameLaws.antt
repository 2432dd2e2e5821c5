-- Names that differ, as the first rule of names wants them.
use Rattle.std.proofs.Common.{◌≡◌, ℕ, List, [], ◌∷◌, ◌++◌, Bool, true, false, not, cond, refl, sym, ap, ◌∙◌, Some, None}
use Rattle.std.specs.Prelude.{map}
use Rattle.std.specs.Str.{bytes_eq}
use Rattle.std.proofs.lemmas.Bool.{and_from, and_parts, not-true, not_from_false, or_parts, or_from, true≢false}
use Rattle.std.proofs.lemmas.Cmp.{nat_list_eq_equiv}
use Rattle.std.proofs.lemmas.List.Folds.{list_any-append}
use Rattle.std.proofs.lemmas.Slice.Eq.{bytes_eq-Decides}
use Rattle.cov_ast.specs.Obligations.{first_false}
use Rattle.cov_ast.specs.WellFormed.{are_distinct}
use Rattle.policy_class.specs.Resolved.{Named, is_among, w1_from, w1_obligation}

-- The first rule of names ---------------------------------------------------------------------------------------------

abbrev pub texts : List Named → List (List ℕ)
texts ns = map (λ n. n.name) ns

-- none of the names is one of those before
abbrev AreFresh : List (List ℕ) → List (List ℕ) → Type 0
AreFresh before [] = Unit {0}
AreFresh before (x ∷ xs) = (is_among before x ≡ false) × AreFresh before xs

-- one more name before, which is none of these
fresh_more : (before : List (List ℕ)) (y : List ℕ) (xs : List (List ℕ)) → AreFresh before xs → is_among xs y ≡ false → AreFresh (before ++ y ∷ []) xs
fresh_more before y [] h k = tt
fresh_more before y (x ∷ xs) h k =
    let parts = or_parts (bytes_eq y x) (is_among xs y) k in (
      list_any-append (bytes_eq x) before (y ∷ []) ∙ or_from (is_among before x) (is_among (y ∷ []) x) h.0
          (or_from (bytes_eq x y) false (nat_list_eq_equiv.symm x y ∙ parts.0) refl),
      fresh_more before y xs h.1 parts.1,
    )

-- the first rule of names holds of names that differ
w1_after : (before : List (List ℕ)) (ns : List Named) → AreFresh before (texts ns) → are_distinct bytes_eq (texts ns) ≡ true
    → first_false (w1_from before ns) ≡ None
w1_after before [] h d = refl
w1_after before (n ∷ ns) h d =
    let parts = and_parts (not (is_among (texts ns) n.name)) (are_distinct bytes_eq (texts ns)) d in
    ap (λ b. cond (not b) (first_false (w1_from (before ++ n.name ∷ []) ns)) (Some (w1_obligation before n).refusal)) h.0
    ∙ w1_after (before ++ n.name ∷ []) ns (fresh_more before n.name (texts ns) h.1 (not-true (is_among (texts ns) n.name) parts.0)) parts.1

nothing_before : (xs : List (List ℕ)) → AreFresh [] xs
nothing_before [] = tt
nothing_before (x ∷ xs) = (refl, nothing_before xs)

pub w1_holds : (ns : List Named) → are_distinct bytes_eq (texts ns) ≡ true → first_false (w1_from [] ns) ≡ None
w1_holds ns d = w1_after [] ns (nothing_before (texts ns)) d

-- Some of the names ----------------------------------------------------------------------------------------------------

-- a name that is there is none that isn't
another : (x n : List ℕ) (ys : List (List ℕ)) → is_among ys x ≡ false → is_among ys n ≡ true → bytes_eq x n ≡ false
another x n ys absent there = go (bytes_eq x n) refl
  where
    go : (b : Bool) → bytes_eq x n ≡ b → bytes_eq x n ≡ false
    go true e = absurd (true≢false (sym there ∙ ap (is_among ys) (sym ((bytes_eq-Decides x n).0 e)) ∙ absent))
    go false e = e

-- each of the names is one of others
abbrev pub AreAmong : (others names : List (List ℕ)) → Type 0
AreAmong ys [] = Unit {0}
AreAmong ys (n ∷ ns) = (is_among ys n ≡ true) × AreAmong ys ns

-- in front of some of the names behind them
none_among : (x : List ℕ) (ns ys : List (List ℕ)) → is_among ys x ≡ false → AreAmong ys ns → is_among ns x ≡ false
none_among x [] ys absent there = refl
none_among x (n ∷ ns) ys absent there = or_from (bytes_eq x n) (is_among ns x) (another x n ys absent there.0) (none_among x ns ys absent there.1)

pub distinct_among : (xs ys ns : List (List ℕ)) → are_distinct bytes_eq (xs ++ ys) ≡ true → AreAmong ys ns → are_distinct bytes_eq ns ≡ true
    → are_distinct bytes_eq (xs ++ ns) ≡ true
distinct_among [] ys ns h there differ = differ
distinct_among (x ∷ xs) ys ns h there differ =
    let parts = and_parts (not (is_among (xs ++ ys) x)) (are_distinct bytes_eq (xs ++ ys)) h in
    let apart = or_parts (is_among xs x) (is_among ys x) (sym (list_any-append (bytes_eq x) xs ys) ∙ not-true (is_among (xs ++ ys) x) parts.0) in
    let absent : is_among (xs ++ ns) x ≡ false =
    list_any-append (bytes_eq x) xs ns ∙ or_from (is_among xs x) (is_among ns x) apart.0 (none_among x ns ys apart.1 there) in
    and_from (not (is_among (xs ++ ns) x)) (are_distinct bytes_eq (xs ++ ns)) (not_from_false (is_among (xs ++ ns) x) absent)
    (distinct_among xs ys ns parts.1 there differ)
