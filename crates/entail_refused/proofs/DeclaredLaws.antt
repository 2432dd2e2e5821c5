-- Where declarations break a rule, not all of their obligations hold.
use Rattle.std.proofs.Common.{◌≡◌, [], ◌∷◌, List, Bool, true, false, if◌then◌else◌, Option, Some, None, refl}
use Rattle.std.specs.Prelude.{◌&&◌}
use Rattle.cov_ast.specs.Obligations.{Obligation, all_hold, first_false}
use Rattle.cov_ast.specs.declared.refusal.Refusal.{Refusal}

pub some_refused : (es : List Obligation) (r : Refusal) → first_false es ≡ Some r → all_hold es ≡ false
some_refused [] r h = let c : ◌≡◌ {A = Option Refusal} None (Some r) = h in cc
some_refused (e ∷ es) r h = by e.holds h (λ k. some_refused es r k)
  where
    by : (b : Bool) → (if b then first_false es else Some e.refusal) ≡ Some r → (first_false es ≡ Some r → all_hold es ≡ false) → (b && all_hold es) ≡ false
    by true h rest = rest h
    by false h rest = refl
