-- The rules of locks: each variable stands in at most one list of at most one lock (W4), and an invariant speaks of the
-- variables of its lock alone (W5).
use Rattle.std.specs.Prelude.{ℕ, List, [], ◌∷◌, ◌++◌, not, map}
use Rattle.std.specs.List.{flat_map}
use Rattle.cov_expr.specs.Trees.{has_number, vars}
use Rattle.cov_ast.specs.Syntax.{Lock, Program}
use Rattle.cov_ast.specs.Plain.{plain}
use Rattle.cov_ast.specs.Declarations.{name_of, invariant_term, lists}
use Rattle.cov_ast.specs.Obligations.{Obligation, declared_obligation}
use Rattle.cov_ast.specs.declared.refusal.Rule.TheVariants.{W4, W5}
use Rattle.cov_ast.specs.declared.refusal.Detail.TheVariants.{One}

module _ (p : Program) where
  -- W4: the variables of a lock, in the order of its lists, of which none was named before
  abbrev pub listing_obligations : Lock → (before : List ℕ) → List ℕ → List Obligation
  listing_obligations l before [] = []
  listing_obligations l before (x ∷ xs) =
      declared_obligation W4 l.at (One (name_of (plain p) x)) (not (has_number before x)) ∷ listing_obligations l (before ++ x ∷ []) xs

  abbrev pub w4_from : (before : List ℕ) → List Lock → List Obligation
  w4_from before [] = []
  w4_from before (l ∷ ls) = listing_obligations l before (l.nowrite ++ l.hide) ++ w4_from (before ++ (l.nowrite ++ l.hide)) ls

  -- W5: each variable of the invariant stands in a list of the lock
  abbrev pub invariant_obligation : Lock → ℕ → Obligation
  invariant_obligation l y = declared_obligation W5 l.at (One (name_of (plain p) y)) (lists l y)

  abbrev pub invariant_obligations : Lock → List Obligation
  invariant_obligations l = map (invariant_obligation l) (vars (invariant_term l.inv))

  abbrev pub lock_obligations : List Obligation
  lock_obligations = w4_from [] p.locks ++ flat_map invariant_obligations p.locks
