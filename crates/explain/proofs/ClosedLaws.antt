-- Expressions without variables.
use Rattle.std.proofs.Common.{◌≡◌, ℕ, ◌==◌, List, [], true, IsTrue, Option, None, Some, ◌∙◌, true≢false, sym, inl, inr}
use Rattle.std.proofs.lemmas.Bool.{and_parts, eqb-true, or_cases}
use Rattle.cov_expr.specs.Term.{Term, const, var, neg, bin, value}
use Rattle.cov_expr.specs.Trees.{is_closed}
use Rattle.cov_expr.specs.Words.{AreWords, HasVarsBelow}
use Rattle.cov_expr.proofs.Values.{value-closed}
use Rattle.cov_ast.specs.Declarations.{invariant_term, lock_at}
use Rattle.cov_ast.specs.Plain.{Plain}
use Rattle.flow_model.specs.Agreement.{AreFitStarts}
use Rattle.explain.specs.HoldsNowhere.{holds_nowhere}
use Rattle.explain.specs.Unused.{is_closed_false, is_false, is_zero_invariant}
use Rattle.explain.proofs.NowhereLaws.{nowhere_zero}

-- they are evaluated in the empty memory
pub closed_in_range : (e : Term) → is_closed e ≡ true → HasVarsBelow e 0
closed_in_range (const k) h = tt
closed_in_range (var x) h = absurd (true≢false (sym h))
closed_in_range (neg e) h = closed_in_range e h
closed_in_range (bin op a b) h =
    let parts = and_parts (is_closed a) (is_closed b) h in
    (closed_in_range a parts.0, closed_in_range b parts.1)

zero_at : (inv : Option Term) (m : List ℕ) → IsTrue (is_zero_invariant inv) → value (invariant_term inv) m ≡ 0
zero_at None m h = absurd (true≢false (sym h))
zero_at (Some e) m h =
    let parts = and_parts (is_closed e) (value e [] == 0) h in
    value-closed e m [] parts.0 ∙ eqb-true (value e []) 0 parts.1

false_at : (inv : Option Term) (m : List ℕ) → AreWords m → IsTrue (is_false inv) → value (invariant_term inv) m ≡ 0
false_at None m w h = absurd (true≢false (sym h))
false_at (Some e) m w h =
    elim (or_cases (is_closed_false e) (holds_nowhere e) h) [
      | inl i ↦ zero_at (Some e) m i
      | inr i ↦ nowhere_zero e m w i
    ]

pub no_start_of_zero : (p : Plain) (l : ℕ) → IsTrue (is_zero_invariant (lock_at p l).inv) → (m1 m2 : List ℕ) → AreFitStarts p m1 m2 → ⊥
no_start_of_zero p l h m1 m2 fit = fit.left l (zero_at (lock_at p l).inv m1 h)

pub no_start : (p : Plain) (l : ℕ) → IsTrue (is_false (lock_at p l).inv) → (m1 m2 : List ℕ) → AreWords m1 → AreFitStarts p m1 m2 → ⊥
no_start p l h m1 m2 w fit = fit.left l (false_at (lock_at p l).inv m1 w h)
