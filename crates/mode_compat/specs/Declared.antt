-- All rules of declarations, and what they give: assumptions of one thread are kept by the others.
use Rattle.std.specs.Prelude.{◌≡◌, ◌≢◌, ◌⊎◌, ℕ, ◌<◌, List, ◌++◌, length, IsTrue, false}
use Rattle.cov_expr.specs.Trees.{mentions}
use Rattle.cov_ast.specs.Syntax.{Program}
use Rattle.cov_ast.specs.Plain.{Plain}
use Rattle.cov_ast.specs.Declarations.{class_of, invariant_of, is_control, is_plain_low, under, assumes, assumes_hide, guarantees, guarantees_hide}
use Rattle.cov_ast.specs.Obligations.{Obligation}
use Rattle.policy_class.specs.Policy.{policy_obligations}
use Rattle.lock_spec.specs.Locks.{lock_obligations}
use Rattle.mode_compat.specs.Compatible.{mode_obligations}

-- W3 to W9, in their order
abbrev pub declaration_obligations : Program → List Obligation
declaration_obligations p = policy_obligations p ++ lock_obligations p ++ mode_obligations p

-- What the rules W3 to W9 say, for proofs.
pub record IsDeclared (p : Plain) : Type 0 where
  pub controls_low : (c : ℕ) → IsTrue (is_control p c) → IsTrue (is_plain_low p c)
  pub one_lock : (x l j : ℕ) → IsTrue (under p l x) → IsTrue (under p j x) → l ≡ j
  pub invariant_under : (l y : ℕ) → IsTrue (mentions (invariant_of p l) y) → IsTrue (under p l y)
  pub not_assumed : (l x t : ℕ) → IsTrue (under p l x) → assumes p t x ≡ false
  pub lock_controls : (l x c : ℕ) → IsTrue (under p l x) → IsTrue (mentions (class_of p x) c)
      → IsTrue (under p l c) ⊎ ((t : ℕ) → t < length p.threads → IsTrue (assumes p t c))
  pub assumed_controls : (t x c : ℕ) → IsTrue (assumes p t x) → IsTrue (mentions (class_of p x) c) → IsTrue (assumes p t c)
  pub met : (t u x : ℕ) → u < length p.threads → t ≢ u → IsTrue (assumes p t x) → IsTrue (guarantees p u x)
  pub met_hide : (t u x : ℕ) → u < length p.threads → t ≢ u → IsTrue (assumes_hide p t x) → IsTrue (guarantees_hide p u x)
