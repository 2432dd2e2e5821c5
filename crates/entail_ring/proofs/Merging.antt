-- How lists of atoms come together.
use Rattle.std.proofs.Common.{◌≡◌, ℕ, ◌<◌, List, [], ◌∷◌, ◌++◌, length, refl, sym, ◌∙◌, ap, arith}
use Rattle.cov_expr.specs.Term.{Term}
use Rattle.entail_ring.specs.Polys.{together}
use Rattle.entail_ring.specs.Ring.{add_new}

together_none : (a : List ℕ) → together a [] ≡ a
together_none [] = refl
together_none (x ∷ a) = ap (λ b. x ∷ b) (together_none a)

pub together_empty : (a b : List ℕ) → length b < 1 → together a b ≡ a
together_empty a [] h = together_none a
together_empty a (y ∷ b) h = absurd (omega arith)

pub add_new-append : (es fs table : List Term) → add_new table (es ++ fs) ≡ add_new (add_new table es) fs
add_new-append [] fs table = refl
add_new-append (e ∷ es) fs table = add_new-append es fs _

pub add_new-both : (table mid new es fs : List Term) → mid ≡ add_new table es → new ≡ add_new mid fs → new ≡ add_new table (es ++ fs)
add_new-both table mid new es fs e f = f ∙ ap (λ found. add_new found fs) e ∙ sym (add_new-append es fs table)
