-- A search of a depth, by one of a depth less.
use Rattle.std.proofs.Common.{◌≡◌, ℕ, zero, suc, ◌-◌, ◌<◌, List, refl, subst, arith}
use Rattle.cov_expr.specs.Term.{Term}
use Rattle.cert_search.specs.Searching.{first_of, step, search}

pub search_less : (d b : ℕ) (hyps : List Term) (goal : Term) → 0 < d → b ≡ d - 1 → search d hyps goal ≡ first_of (search b hyps goal) (step (search b) hyps goal)
search_less zero b hyps goal h e = absurd (omega arith)
search_less (suc d) b hyps goal h e =
    let i : d ≡ b = omega arith in
    subst (λ b. search (suc d) hyps goal ≡ first_of (search b hyps goal) (step (search b) hyps goal)) i refl
