-- Lists of locks, with what was named before as a set and as a list.
use Rattle.std.proofs.Common.{◌≡◌, ℕ, ◌<◌, ◌==◌, ◌||◌, not, List, [], ◌∷◌, ◌++◌, Bool, true, false, replicate, refl, sym, ap, ◌∙◌, All, suc, arith}
use Rattle.std.specs.Prelude.{set}
use Rattle.std.proofs.lemmas.List.Folds.{list_any-append}
use Rattle.cov_expr.specs.Trees.{has_number}
use Rattle.cov_ast.specs.Syntax.{Lock, Program}
use Rattle.cov_ast.specs.Tables.{table, with_all}
use Rattle.cov_ast.specs.Obligations.{declared_obligation}
use Rattle.cov_ast.specs.declared.refusal.Rule.TheVariants.{W4}
use Rattle.cov_ast.specs.declared.refusal.Detail.TheVariants.{One}
use Rattle.cov_ast.specs.Plain.{plain}
use Rattle.cov_ast.specs.Declarations.{name_of}
use Rattle.std.proofs.lemmas.Grind.{common_steps}
use Rattle.std.proofs.Math.Bool.{or-false}
use Rattle.cov_ast.specs.WellFormed.{IsLockInRange}
use Rattle.cov_ast.proofs.TableLaws.{table_at, table_same, set_table, with_all_table, none_table}
use Rattle.lock_spec.specs.Locks.{listing_obligations, w4_from}
use Rattle.lock_spec.specs.Inside.{marked_obligation, marked_obligations, marked_from}

module _ (p : Program) where
  pub marked_append : (l : Lock) (marks : List Bool) (xs ys : List ℕ)
      → marked_obligations p l marks (xs ++ ys) ≡ marked_obligations p l marks xs ++ marked_obligations p l (with_all marks xs) ys
  marked_append l marks [] ys = refl
  marked_append l marks (x ∷ xs) ys = ap (λ es. marked_obligation p l marks x ∷ es) (marked_append l (set marks x true) xs ys)

  has_number_push : (xs : List ℕ) (x y : ℕ) → has_number (xs ++ x ∷ []) y ≡ (has_number xs y || x == y)
  has_number_push xs x y = list_any-append (λ z. z == y) xs (x ∷ []) ∙ ap (λ b. has_number xs y || b) (or-false (x == y))

  one_more : (n : ℕ) (before : List ℕ) (x : ℕ) → set (table n (has_number before)) x true ≡ table n (has_number (before ++ x ∷ []))
  one_more n before x =
      set_table n (has_number before) x
      ∙ table_same n (λ y. has_number before y || x == y) (has_number (before ++ x ∷ [])) (λ y h. sym (has_number_push before x y))

  all_more : (n : ℕ) (before xs : List ℕ) → with_all (table n (has_number before)) xs ≡ table n (has_number (before ++ xs))
  all_more n before xs =
      with_all_table n (has_number before) xs
      ∙ table_same n (λ y. has_number before y || has_number xs y) (has_number (before ++ xs)) (λ y h. sym (list_any-append (λ z. z == y) before xs))

  tail : (n : ℕ) (x : ℕ) (xs : List ℕ) → All (λ y. y < n) (x ∷ xs) → All (λ y. y < n) xs
  tail n x xs all k d h = all (suc k) d (omega arith)

  marked_listing : (n : ℕ) (l : Lock) (before xs : List ℕ) → All (λ x. x < n) xs
      → marked_obligations p l (table n (has_number before)) xs ≡ listing_obligations p l before xs
  marked_listing n l before [] all = refl
  marked_listing n l before (x ∷ xs) all =
      ap (λ b. declared_obligation W4 l.at (One (name_of (plain p) x)) (not b) ∷ marked_obligations p l (set (table n (has_number before)) x true) xs)
      (table_at n (has_number before) x (all 0 0 (omega arith)))
      ∙ ap (λ es. declared_obligation W4 l.at (One (name_of (plain p) x)) (not (has_number before x)) ∷ es)
      (ap (λ m. marked_obligations p l m xs) (one_more n before x) ∙ marked_listing n l (before ++ x ∷ []) xs (tail n x xs all))

  both : (n : ℕ) (xs ys : List ℕ) → All (λ x. x < n) xs → All (λ x. x < n) ys → All (λ x. x < n) (xs ++ ys)
  both n xs ys h k = grind (arith, common_steps)

  marked_locks : (n m : ℕ) (before : List ℕ) (ls : List Lock) → All (IsLockInRange n m) ls → marked_from p (table n (has_number before)) ls ≡ w4_from p before ls
  marked_locks n m before [] all = refl
  marked_locks n m before (l ∷ ls) all =
      let here : IsLockInRange n m l = all 0 l (omega arith) in
      ap (λ es. es ++ marked_from p (with_all (table n (has_number before)) (l.nowrite ++ l.hide)) ls)
      (marked_listing n l before (l.nowrite ++ l.hide) (both n l.nowrite l.hide here.nowrite here.hide))
      ∙ ap (λ es. listing_obligations p l before (l.nowrite ++ l.hide) ++ es)
      (ap (λ marks. marked_from p marks ls) (all_more n before (l.nowrite ++ l.hide))
      ∙ marked_locks n m (before ++ (l.nowrite ++ l.hide)) ls (λ k d h. all (suc k) d (omega arith)))

  -- from the empty set
  pub marked_all : (n m : ℕ) (ls : List Lock) → All (IsLockInRange n m) ls → marked_from p (replicate n false) ls ≡ w4_from p [] ls
  marked_all n m ls all = ap (λ marks. marked_from p marks ls) (none_table n) ∙ marked_locks n m [] ls all
