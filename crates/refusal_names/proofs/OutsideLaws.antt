-- Variables outside of a set, of two lists.
use Rattle.std.proofs.Common.{◌≡◌, ℕ, List, [], ◌∷◌, ◌++◌, Bool, true, false, if◌then◌else◌, Result, OnOk, refl, sym, ap, ◌∙◌, subst, append_assoc}
use Rattle.cov_ast.specs.Tables.{has}
use Rattle.refusal_names.specs.OutsideVariables.{all_outside}

one_more : (b : Bool) (x : ℕ) (both xs ys : List ℕ) → both ≡ xs ++ ys → (if b then both else x ∷ both) ≡ (if b then xs else x ∷ xs) ++ ys
one_more true x both xs ys h = h
one_more false x both xs ys h = ap (λ zs. x ∷ zs) h

pub outside_more : (set : List Bool) (xs ys : List ℕ) → all_outside set (xs ++ ys) ≡ all_outside set xs ++ all_outside set ys
outside_more set [] ys = refl
outside_more set (x ∷ xs) ys =
    one_more (has set x) x (all_outside set (xs ++ ys)) (all_outside set xs) (all_outside set ys) (outside_more set xs ys)

-- those of one list and then those of another
pub both_outside : {T E : Type 0} (result : Result T E) (set : List Bool) (old mid new xs ys : List ℕ) → mid ≡ old ++ all_outside set xs
    → OnOk result (new ≡ mid ++ all_outside set ys) → OnOk result (new ≡ old ++ all_outside set (xs ++ ys))
both_outside result set old mid new xs ys first second =
    subst (λ found. OnOk result (new ≡ found))
    (ap (λ found. found ++ all_outside set ys) first ∙ append_assoc old (all_outside set xs) (all_outside set ys)
    ∙ ap (λ found. old ++ found) (sym (outside_more set xs ys)))
    second
