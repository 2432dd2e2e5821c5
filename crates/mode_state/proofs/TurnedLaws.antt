-- Sets by lock, turned into sets of locks.
use Rattle.std.proofs.Common.{◌≡◌, ◌≢◌, ℕ, ◌+◌, ◌<◌, ◌≤◌, ◌&&◌, List, [], Bool, true, false, length, get_or, replicate, sym, ap, ◌∙◌, arith, nat_lt, inl, inr}
use Rattle.std.proofs.lemmas.Bool.{cases_eq, cases_lt, lt-ltb, le-ltb}
use Rattle.std.proofs.lemmas.List.{same_lists, get_or-replicate, get_or_default}
use Rattle.std.proofs.lemmas.List.FromFn.{get_or-map-range_with_len, length-map-range_with_len}
use Rattle.cov_ast.specs.Tables.{table, has}
use Rattle.cov_ast.proofs.TableLaws.{table_same, none_table}
use Rattle.mode_state.specs.Inside.{set_at, marked_if, turned, turned_row}
use Rattle.mode_state.proofs.MaskLaws.{table_put}

-- the locks below a number whose sets have a variable
abbrev pub row_below : List (List Bool) → (x n : ℕ) → List Bool
row_below sets x n = table (length sets) (λ k. nat_lt k n && has (set_at sets k) x)

-- none is marked yet
pub row_none : (sets : List (List Bool)) (n x : ℕ) → x < n → get_or (replicate n (replicate (length sets) false)) x [] ≡ row_below sets x 0
row_none sets n x lt =
    get_or-replicate n x (replicate (length sets) false) [] lt ∙ none_table (length sets)
    ∙ table_same (length sets) (λ k. false) (λ k. nat_lt k 0 && has (set_at sets k) x) (λ k lt. sym (ap (λ b. b && has (set_at sets k) x) (le-ltb k 0 (omega arith))))

-- one more lock is marked
module _ (sets : List (List Bool)) (x l : ℕ) (inside : l < length sets) where
  same : (k : ℕ) → k ≢ l → (nat_lt k (l + 1) && has (set_at sets k) x) ≡ (nat_lt k l && has (set_at sets k) x)
  same k ne = ap (λ b. b && has (set_at sets k) x) (elim (cases_lt k l) [
    | inl lt ↦ lt-ltb k (l + 1) (omega arith) ∙ sym (lt-ltb k l lt)
    | inr le ↦ le-ltb k (l + 1) (omega arith) ∙ sym (le-ltb k l le)
  ])

  last : (nat_lt l (l + 1) && has (set_at sets l) x) ≡ has (set_at sets l) x
  last = ap (λ b. b && has (set_at sets l) x) (lt-ltb l (l + 1) (omega arith))

  pub row_more : (b : Bool) → has (set_at sets l) x ≡ b → marked_if b (row_below sets x l) l ≡ row_below sets x (l + 1)
  row_more true e =
      sym (table_put (length sets) (λ k. nat_lt k l && has (set_at sets k) x) (λ k. nat_lt k (l + 1) && has (set_at sets k) x) l true (λ lt. last ∙ e) (λ k lt ne. same k ne))
  row_more false e =
      table_same (length sets) (λ k. nat_lt k l && has (set_at sets k) x) (λ k. nat_lt k (l + 1) && has (set_at sets k) x)
      (λ k lt. elim (cases_eq k l) [
        | inl is ↦ ap (λ j. nat_lt j l && has (set_at sets j) x) is ∙ ap (λ b. b && has (set_at sets l) x) (le-ltb l l (omega arith))
            ∙ sym (ap (λ j. nat_lt j (l + 1) && has (set_at sets j) x) is ∙ last ∙ e)
        | inr ne ↦ sym (same k ne)
      ])

-- all locks are marked
pub rows_all : (rows sets : List (List Bool)) (n l : ℕ) → length rows ≡ n → length sets ≤ l → ((x : ℕ) → x < n → get_or rows x [] ≡ row_below sets x l)
    → rows ≡ turned n sets
rows_all rows sets n l long past each =
    same_lists rows (turned n sets) (long ∙ sym (length-map-range_with_len (turned_row sets) 0 n))
    (λ x d lt. let inside : x < n = omega (arith, long) in
    get_or_default rows x d [] lt ∙ each x inside
    ∙ table_same (length sets) (λ k. nat_lt k l && has (set_at sets k) x) (λ k. has (set_at sets k) x) (λ k lt. ap (λ b. b && has (set_at sets k) x) (lt-ltb k l (omega arith)))
    ∙ sym (get_or-map-range_with_len (turned_row sets) 0 n x x d inside (omega arith)))
