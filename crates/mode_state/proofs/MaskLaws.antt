-- Sets of numbers below a bound, as the bits of words.
use Rattle.std.proofs.Common.{◌≡◌, ◌≢◌, ℕ, zero, suc, [], ◌∷◌, ◌/◌, ◌%◌, ◌<◌, ◌≤◌, ◌||◌, ◌==◌, List, Bool, true, false, length, get_or, replicate, refl, sym, ap, ◌∙◌, arith, rules, nat_lt, inl, inr, ◌⊎◌, Some, None}
use Rattle.std.specs.Prelude.{bit_or, set}
use Rattle.std.proofs.lemmas.Bool.{cases_eq, cases_lt}
use Rattle.std.proofs.lemmas.List.{same_lists, get_or-set_same, get_or-set_other, length-set, get_or_past, get_or-replicate, length-replicate}
use Rattle.std.proofs.lemmas.List.FromFn.{get_or-map-range_with_len}
use Rattle.std.proofs.lemmas.Nat.Bits.{bit_at-zero}
use Rattle.cov_expr.specs.Trees.{has_number}
use Rattle.cov_ast.specs.Tables.{table, has, with_all}
use Rattle.cov_ast.proofs.TableLaws.{table_at, table_length, table_same, none_table, with_all_none, with_all_both}
use Rattle.mode_state.specs.Bits.{has_bit, in_words, IsNext}
use Rattle.mode_state.proofs.BitLaws.{or_bit}

-- Tables -------------------------------------------------------------------------------------------------------

-- a test that changes at one number at most
pub table_put : (n : ℕ) (f g : ℕ → Bool) (x : ℕ) (b : Bool) → (x < n → g x ≡ b) → ((k : ℕ) → k < n → k ≢ x → g k ≡ f k)
    → table n g ≡ set (table n f) x b
table_put n f g x b here others =
    same_lists (table n g) (set (table n f) x b) (table_length n g ∙ sym (length-set (table n f) x b ∙ table_length n f))
    (λ k d lt. at k d (omega (arith, table_length n g)) (cases_eq k x))
  where
    at : (k : ℕ) (d : Bool) → k < n → (k ≡ x) ⊎ (k ≡ x → ⊥) → get_or (table n g) k d ≡ get_or (set (table n f) x b) k d
    at k d lt (inl e) =
        let inside : x < length (table n f) = omega (arith, table_length n f) in
        get_or-map-range_with_len g 0 n k k d lt (omega arith) ∙ ap g e ∙ here (omega arith)
        ∙ sym (ap (λ i. get_or (set (table n f) x b) i d) e ∙ get_or-set_same (table n f) x b d inside)
    at k d lt (inr ne) =
        get_or-map-range_with_len g 0 n k k d lt (omega arith) ∙ others k lt ne
        ∙ sym (get_or-set_other (table n f) x k b d ne ∙ get_or-map-range_with_len f 0 n k k d lt (omega arith))

pub table_past : (n : ℕ) (f : ℕ → Bool) (x : ℕ) → n ≤ x → has (table n f) x ≡ false
table_past n f x le = get_or_past (table n f) x false (omega (arith, table_length n f))

-- what is set past the end
pub put_past : (n : ℕ) (f : ℕ → Bool) (x : ℕ) (b : Bool) → n ≤ x → table n f ≡ set (table n f) x b
put_past n f x b le = table_put n f f x b (λ lt. absurd (omega arith)) (λ k lt ne. refl)

-- a test of the bound that fails
pub lt_past : (n : ℕ) (f : ℕ → Bool) (x : ℕ) → n ≤ x → nat_lt x n ≡ has (table n f) x
lt_past n f x le = elim (nat_lt x n) as (λ b. nat_lt x n ≡ b → b ≡ has (table n f) x) [
  | true ↦ λ e. absurd (let lt : x < n = search (rules, e) in omega arith)
  | false ↦ λ e. sym (table_past n f x le)
] refl

-- Four words ---------------------------------------------------------------------------------------------------

module _ (words : List ℕ) (four : length words ≡ 4) (x : ℕ) (inside : x < 256) (w : ℕ) (b : Bool)
    (here : has_bit w (x % 64) ≡ b) (others : (j : ℕ) → j < 64 → j ≢ x % 64 → has_bit w j ≡ has_bit (get_or words (x / 64) 0) j) where
  in_new : in_words (set words (x / 64) w) x ≡ b
  in_new = ap (λ v. has_bit v (x % 64)) (get_or-set_same words (x / 64) w 0 (omega arith)) ∙ here

  in_others : (k : ℕ) → k ≢ x → in_words (set words (x / 64) w) k ≡ in_words words k
  in_others k ne = elim (cases_eq (k / 64) (x / 64)) [
    | inl e ↦
        ap (λ i. has_bit (get_or (set words (x / 64) w) i 0) (k % 64)) e
        ∙ ap (λ v. has_bit v (k % 64)) (get_or-set_same words (x / 64) w 0 (omega arith))
        ∙ others (k % 64) (omega arith) (λ same. ne (omega arith)) ∙ ap (λ i. has_bit (get_or words i 0) (k % 64)) (sym e)
    | inr other ↦ ap (λ v. has_bit v (k % 64)) (get_or-set_other words (x / 64) (k / 64) w 0 other)
  ]

  pub words_put : (n : ℕ) → table n (in_words (set words (x / 64) w)) ≡ set (table n (in_words words)) x b
  words_put n = table_put n (in_words words) (in_words (set words (x / 64) w)) x b (λ lt. in_new) (λ k lt ne. in_others k ne)

-- four words with the numbers of both
pub words_joined : (a b : List ℕ) (x : ℕ) → x < 256
    → in_words (bit_or (get_or a 0 0) (get_or b 0 0) ∷ bit_or (get_or a 1 0) (get_or b 1 0) ∷ bit_or (get_or a 2 0) (get_or b 2 0) ∷ bit_or (get_or a 3 0) (get_or b 3 0) ∷ []) x
    ≡ (in_words a x || in_words b x)
words_joined a b x small = ap (λ w. has_bit w (x % 64)) (word (x / 64) (omega arith)) ∙ or_bit (get_or a (x / 64) 0) (get_or b (x / 64) 0) (x % 64)
  where
    word : (i : ℕ) → i < 4
        → get_or (bit_or (get_or a 0 0) (get_or b 0 0) ∷ bit_or (get_or a 1 0) (get_or b 1 0) ∷ bit_or (get_or a 2 0) (get_or b 2 0) ∷ bit_or (get_or a 3 0) (get_or b 3 0) ∷ []) i 0
        ≡ bit_or (get_or a i 0) (get_or b i 0)
    word zero lt = refl
    word (suc zero) lt = refl
    word (suc (suc zero)) lt = refl
    word (suc (suc (suc zero))) lt = refl
    word (suc (suc (suc (suc i)))) lt = absurd (omega arith)

-- sets with the numbers of both
pub tables_joined : (n m : ℕ) (f g h : ℕ → Bool) (s t : List Bool) → n ≤ 256 → table n f ≡ s → table m g ≡ t → ((x : ℕ) → x < 256 → h x ≡ (f x || g x))
    → (x : ℕ) → x < length s → x < length t → has (table n h) x ≡ (has s x || has t x)
tables_joined n m f g h s t small is_s is_t both x in_s in_t =
    let lt_n : x < n = omega (arith, ap length is_s, table_length n f) in
    let lt_m : x < m = omega (arith, ap length is_t, table_length m g) in
    table_at n h x lt_n ∙ both x (omega arith)
    ∙ (λ i. sym (table_at n f x lt_n) i || sym (table_at m g x lt_m) i) ∙ (λ i. has (is_s i) x || has (is_t i) x)

-- the same of any number, where both sets have one bound
pub joined_anywhere : (s t u : List Bool) → length t ≡ length s → length u ≡ length s
    → ((x : ℕ) → x < length s → x < length t → has u x ≡ (has s x || has t x)) → (x : ℕ) → has u x ≡ (has s x || has t x)
joined_anywhere s t u as_t as_u below x = elim (cases_lt x (length s)) [
  | inl inside ↦ below x inside (omega arith)
  | inr past ↦ get_or_past u x false (omega arith) ∙ (λ i. sym (get_or_past s x false past) i || sym (get_or_past t x false (omega arith)) i)
]

-- no number is in words of 0
pub no_words : (n : ℕ) → table n (in_words (replicate 4 0)) ≡ replicate n false
no_words n = table_same n (in_words (replicate 4 0)) (λ y. false) (λ x lt. ap (λ v. has_bit v (x % 64)) (zero (x / 64)) ∙ ap (λ b. b == 1) (bit_at-zero (x % 64))) ∙ sym (none_table n)
  where
    zero : (i : ℕ) → (◌≡◌) {A = ℕ} (get_or (replicate 4 0) i 0) 0
    zero i = elim (cases_lt i 4) [
      | inl lt ↦ let none : ℕ = 0 in get_or-replicate 4 i none none lt
      | inr le ↦ let none : ℕ = 0 in get_or_past (replicate 4 none) i none (omega (arith, length-replicate 4 none))
    ]

-- Lists of numbers ---------------------------------------------------------------------------------------------

-- (laws of cov_ast again: a function can name those of its own crate alone)
pub none_with : (n : ℕ) (xs : List ℕ) → with_all (replicate n false) xs ≡ table n (has_number xs)
none_with n xs = with_all_none n xs

pub none_with_both : (n : ℕ) (xs ys : List ℕ) → with_all (with_all (replicate n false) xs) ys ≡ table n (λ x. has_number xs x || has_number ys x)
none_with_both n xs ys = with_all_both n xs ys

-- The first number from one on ---------------------------------------------------------------------------------

module _ (n : ℕ) (f : ℕ → Bool) (s : List Bool) (is : table n f ≡ s) (from : ℕ) where
  at : (k : ℕ) → k < n → has s k ≡ f k
  at k lt = ap (λ v. has v k) (sym is) ∙ table_at n f k lt

  long : length s ≡ n
  long = ap length (sym is) ∙ table_length n f

  pub next_inside : (x : ℕ) → IsNext f from 256 (Some x) → x < n → IsNext (has s) from (length s) (Some x)
  next_inside x h lt = (omega (arith, long), h.1, at x lt ∙ h.2, λ k le before. at k (omega arith) ∙ h.3 k le before)

  pub next_past : (x : ℕ) → IsNext f from 256 (Some x) → n ≤ x → IsNext (has s) from (length s) None
  next_past x h past k le lt = let inside : k < n = omega (arith, long) in at k inside ∙ h.3 k le (omega arith)

  pub next_none : n ≤ 256 → IsNext f from 256 None → IsNext (has s) from (length s) None
  next_none small h k le lt = let inside : k < n = omega (arith, long) in at k inside ∙ h k le (omega arith)
