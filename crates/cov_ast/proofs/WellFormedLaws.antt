-- What a well formed program has of each declaration.
use Rattle.std.proofs.Common.{◌≡◌, ℕ, ◌<◌, ◌≤◌, List, length, map, get_or, ap, sym, ◌∙◌, subst, All}
use Rattle.std.proofs.lemmas.List.{get_or-map, length-map}
use Rattle.cov_expr.specs.Words.{HasVarsBelow}
use Rattle.cov_ast.specs.Plain.{class_term, plain}
use Rattle.cov_ast.specs.Declarations.{class_of, no_var}
use Rattle.cov_ast.specs.WellFormed.{IsWellFormed, IsLockInRange, IsThreadInRange}
use Rattle.cov_ast.specs.declared.decl.Program.{Program}
use Rattle.cov_ast.specs.declared.decl.VarDecl.{VarDecl}
use Rattle.cov_ast.specs.declared.decl.LockDecl.{LockDecl}
use Rattle.cov_ast.specs.declared.decl.ThreadDecl.{ThreadDecl}
use Rattle.cov_ast.specs.View as view

-- what holds of each item as it is seen
pub seen_item : {X Y : Type 0} (v : X → Y) (P : Y → Type 0) (xs : List X) (i : ℕ) (x : X) → All P (map v xs) → i < length xs → x ≡ get_or xs i x → P (v x)
seen_item v P xs i x all inside is =
    subst P (get_or-map v xs i x (v x) inside ∙ ap v (sym is)) (all i (v x) (subst (λ n. i < n) (sym (length-map xs v)) inside))

module _ (p : Program) (fine : IsWellFormed (view.program p)) where
  counts : length (map view.var p.vars) ≡ length p.vars
  counts = length-map p.vars view.var

  lock_counts : length (map view.lock p.locks) ≡ length p.locks
  lock_counts = length-map p.locks view.lock

  pub lock_in_range : (i : ℕ) (l : LockDecl) → i < length p.locks → l ≡ get_or p.locks i l → IsLockInRange (length p.vars) (length p.locks) (view.lock l)
  lock_in_range i l inside is =
      subst (λ n. IsLockInRange n (length p.locks) (view.lock l)) counts
      (subst (λ m. IsLockInRange (length (map view.var p.vars)) m (view.lock l)) lock_counts
      (seen_item view.lock (IsLockInRange (length (map view.var p.vars)) (length (map view.lock p.locks))) p.locks i l fine.ids.of_locks inside is))

  pub locks_in_range : All (IsLockInRange (length p.vars) (length p.locks)) (map view.lock p.locks)
  locks_in_range =
      subst (λ n. All (IsLockInRange n (length p.locks)) (map view.lock p.locks)) counts
      (subst (λ m. All (IsLockInRange (length (map view.var p.vars)) m) (map view.lock p.locks)) lock_counts fine.ids.of_locks)

  pub thread_in_range : (i : ℕ) (t : ThreadDecl) → i < length p.threads → t ≡ get_or p.threads i t → IsThreadInRange (length p.vars) (length p.locks) (view.thread t)
  thread_in_range i t inside is =
      subst (λ n. IsThreadInRange n (length p.locks) (view.thread t)) counts
      (subst (λ m. IsThreadInRange (length (map view.var p.vars)) m (view.thread t)) lock_counts
      (seen_item view.thread (IsThreadInRange (length (map view.var p.vars)) (length (map view.lock p.locks))) p.threads i t fine.ids.of_threads inside is))

  pub class_in_range : (i : ℕ) (v : VarDecl) → i < length p.vars → v ≡ get_or p.vars i v → HasVarsBelow (class_term (view.class v.class)) (length p.vars)
  class_in_range i v inside is =
      subst (HasVarsBelow (class_term (view.class v.class))) counts
      (seen_item view.var (λ w. HasVarsBelow (class_term w.class) (length (map view.var p.vars))) p.vars i v fine.ids.classes inside is)

  pub class_at : (x : ℕ) → x < length p.vars → HasVarsBelow (class_of (plain (view.program p)) x) (length p.vars)
  class_at x inside =
      subst (HasVarsBelow (class_of (plain (view.program p)) x)) counts (fine.ids.classes x no_var (subst (λ n. x < n) (sym counts) inside))
