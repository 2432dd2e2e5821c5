-- Laws of sets as tables.
use Rattle.std.proofs.Common.{◌≡◌, ℕ, ◌<◌, ◌==◌, ◌||◌, List, [], ◌∷◌, Bool, true, false, length, map, get_or, refl, sym, ap, ◌∙◌, arith, replicate, inl, inr, ◌⊎◌, ◌++◌, cond, Some}
use Rattle.std.specs.Option.{option_or}
use Rattle.std.proofs.lemmas.List.{get_or-set_same, get_or-set_other, length-set, same_lists, length-replicate, get_or-replicate, get_or-map, length-map}
use Rattle.std.proofs.lemmas.List.FromFn.{get_or-map-range_with_len, length-map-range_with_len}
use Rattle.std.proofs.lemmas.Bool.{cases_eq, eq-eqb, ne_eqb}
use Rattle.std.specs.Prelude.{set}
use Rattle.std.specs.List.{range_with_len}
use Rattle.std.proofs.Math.Bool.{or-true, or-false}
use Rattle.cov_expr.specs.Trees.{has_number}
use Rattle.cov_expr.proofs.Tests.{or_regrouped}
use Rattle.cov_ast.specs.Tables.{table, has, with_all, first_outside}

-- what a table says below its bound
pub table_at : (n : ℕ) (f : ℕ → Bool) (x : ℕ) → x < n → has (table n f) x ≡ f x
table_at n f x h = get_or-map-range_with_len f 0 n x x false h (omega arith)

pub table_length : (n : ℕ) (f : ℕ → Bool) → length (table n f) ≡ n
table_length n f = length-map-range_with_len f 0 n

-- tables of tests that agree below the bound
pub table_same : (n : ℕ) (f g : ℕ → Bool) → ((x : ℕ) → x < n → f x ≡ g x) → table n f ≡ table n g
table_same n f g h =
    same_lists (table n f) (table n g) (table_length n f ∙ sym (table_length n g))
    (λ k d b. let lt : k < n = omega (arith, table_length n f) in
    get_or-map-range_with_len f 0 n k k d lt (omega arith) ∙ h k lt ∙ sym (get_or-map-range_with_len g 0 n k k d lt (omega arith)))

pub set_table : (n : ℕ) (f : ℕ → Bool) (x : ℕ) → set (table n f) x true ≡ table n (λ y. f y || x == y)
set_table n f x =
    same_lists (set (table n f) x true) (table n (λ y. f y || x == y))
    (length-set (table n f) x true ∙ table_length n f ∙ sym (table_length n (λ y. f y || x == y)))
    (λ k d b. let lt : k < n = omega (arith, table_length n f, length-set (table n f) x true) in at k d lt (cases_eq x k))
  where
    at : (k : ℕ) (d : Bool) → k < n → (x ≡ k) ⊎ (x ≡ k → ⊥) → get_or (set (table n f) x true) k d ≡ get_or (table n (λ y. f y || x == y)) k d
    at k d lt (inl e) =
        let inside : x < length (table n f) = omega (arith, table_length n f) in
        ap (λ i. get_or (set (table n f) x true) i d) (sym e) ∙ get_or-set_same (table n f) x true d inside
        ∙ sym (get_or-map-range_with_len (λ y. f y || x == y) 0 n k k d lt (omega arith) ∙ ap (λ b. f k || b) (eq-eqb x k e) ∙ or-true (f k))
    at k d lt (inr ne) =
        get_or-set_other (table n f) x k true d (λ e. ne (sym e)) ∙ get_or-map-range_with_len f 0 n k k d lt (omega arith)
        ∙ sym (get_or-map-range_with_len (λ y. f y || x == y) 0 n k k d lt (omega arith) ∙ ap (λ b. f k || b) (ne_eqb x k ne) ∙ or-false (f k))

pub with_all_table : (n : ℕ) (f : ℕ → Bool) (xs : List ℕ) → with_all (table n f) xs ≡ table n (λ y. f y || has_number xs y)
with_all_table n f [] = table_same n f (λ y. f y || false) (λ x h. sym (or-false (f x)))
with_all_table n f (x ∷ xs) =
    ap (λ m. with_all m xs) (set_table n f x) ∙ with_all_table n (λ y. f y || x == y) xs
    ∙ table_same n (λ y. (f y || x == y) || has_number xs y) (λ y. f y || has_number (x ∷ xs) y) (λ y h. sym (or_regrouped (f y) (x == y) (has_number xs y)))

pub none_table : (n : ℕ) → replicate n false ≡ table n (λ y. false)
none_table n =
    same_lists (replicate n false) (table n (λ y. false)) (length-replicate n false ∙ sym (table_length n (λ y. false)))
    (λ k d b. let lt : k < n = omega (arith, length-replicate n false) in
    get_or-replicate n k false d lt ∙ sym (get_or-map-range_with_len (λ y. false) 0 n k k d lt (omega arith)))

pub with_all_none : (n : ℕ) (xs : List ℕ) → with_all (replicate n false) xs ≡ table n (has_number xs)
with_all_none n xs = ap (λ m. with_all m xs) (none_table n) ∙ with_all_table n (λ y. false) xs

pub with_all_both : (n : ℕ) (xs ys : List ℕ) → with_all (with_all (replicate n false) xs) ys ≡ table n (λ x. has_number xs x || has_number ys x)
with_all_both n xs ys = ap (λ m. with_all m ys) (with_all_none n xs) ∙ with_all_table n (has_number xs) ys

pub outside_append : (marks : List Bool) (xs ys : List ℕ) → first_outside marks (xs ++ ys) ≡ option_or (first_outside marks xs) (first_outside marks ys)
outside_append marks [] ys = refl
outside_append marks (x ∷ xs) ys =
    elim (has marks x) as (λ b. cond b (first_outside marks (xs ++ ys)) (Some x) ≡ option_or (cond b (first_outside marks xs) (Some x)) (first_outside marks ys))
    [ true ↦ outside_append marks xs ys | false ↦ refl ]

-- what the items of a list give, read by number
pub by_number : {X Y : Type 0} (f : X → Y) (xs : List X) (d : X) → map f xs ≡ map (λ k. f (get_or xs k d)) (range_with_len 0 (length xs))
by_number f xs d =
    same_lists (map f xs) (map (λ k. f (get_or xs k d)) (range_with_len 0 (length xs)))
    (length-map xs f ∙ sym (length-map-range_with_len (λ k. f (get_or xs k d)) 0 (length xs)))
    (λ k e lt. let inside : k < length xs = omega (arith, length-map xs f) in
    get_or-map f xs k d e inside ∙ sym (get_or-map-range_with_len (λ k. f (get_or xs k d)) 0 (length xs) k k e inside (omega arith)))

pub with_all_append : (marks : List Bool) (xs ys : List ℕ) → with_all marks (xs ++ ys) ≡ with_all (with_all marks xs) ys
with_all_append marks [] ys = refl
with_all_append marks (x ∷ xs) ys = with_all_append (set marks x true) xs ys
