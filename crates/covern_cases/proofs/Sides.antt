-- A list, as all its items but the last, and the last.
use Rattle.std.proofs.Common.{◌≡◌, [], ◌∷◌, ◌++◌, List, Some, map, refl, ap, subst, sym}
use Rattle.cov_expr.specs.declared.expr.Expr.{Expr}
use Rattle.cov_expr.specs.Term.{Term}
use Rattle.cov_expr.specs.View.{term}
use Rattle.covern_cases.specs.Claims.{last_apart, untyped_sides}

last_apart_is : (e : Expr) (rest : List Expr) (x : Expr) → last_apart (term e) (map term (rest ++ x ∷ [])) ≡ (term e ∷ map term rest, term x)
last_apart_is e [] x = refl
last_apart_is e (next ∷ rest) x =
    let join : List Term × Term → List Term × Term = λ apart. (term e ∷ apart.0, apart.1) in
    ap join (last_apart_is next rest x)

sides_at_end : (hyps : List Expr) (goal : Expr) → untyped_sides (map term (hyps ++ goal ∷ [])) ≡ Some (map term hyps, term goal)
sides_at_end [] goal = refl
sides_at_end (e ∷ hyps) goal = ap (λ apart. Some apart) (last_apart_is e hyps goal)

pub sides_are : (preds hyps : List Expr) (goal : Expr) → preds ≡ hyps ++ goal ∷ [] → untyped_sides (map term preds) ≡ Some (map term hyps, term goal)
sides_are preds hyps goal same =
    let P : List Expr → Type 0 = λ es. untyped_sides (map term es) ≡ Some (map term hyps, term goal) in
    subst P (sym same) (sides_at_end hyps goal)
