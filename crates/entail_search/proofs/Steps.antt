-- A search with one more step, by one without it.
use Rattle.std.proofs.Common.{◌≡◌, ℕ, zero, suc, ◌-◌, ◌<◌, List, Option, refl, subst, arith}
use Rattle.cov_expr.specs.declared.expr.Op.TheVariants.{Either}
use Rattle.cov_expr.specs.Term.{Term}
use Rattle.cov_ast.specs.Syntax.{Cert}
use Rattle.entail_cert.specs.Valid.{operands}
use Rattle.cert_search.specs.Searching.{first_of}
use Rattle.entail_search.specs.declared.splits.TheConstants.{MOST_TRIED}
use Rattle.entail_search.specs.Deeper.{at_once, in_each, in_parts, by_disjunctions, by_splits}

pub splits_less : (d b : ℕ) (hyps : List Term) (goal : Term) → 0 < d → b ≡ d - 1
    → by_splits d hyps goal ≡ first_of (at_once hyps goal) (by_disjunctions (by_splits b) goal hyps MOST_TRIED 1 hyps)
splits_less zero b hyps goal h e = absurd (omega arith)
splits_less (suc d) b hyps goal h e =
    let i : d ≡ b = omega arith in
    subst (λ b. by_splits (suc d) hyps goal ≡ first_of (at_once hyps goal) (by_disjunctions (by_splits b) goal hyps MOST_TRIED 1 hyps)) i refl

pub parts_less : (find : List Term → Term → Option Cert) (goal : Term) (k b : ℕ) (hyps : List Term) (n : ℕ) (e : Term) → 0 < k → b ≡ k - 1
    → in_parts find goal k hyps n e ≡ in_each find goal (in_parts find goal b) hyps n (operands Either e)
parts_less find goal zero b hyps n e h r = absurd (omega arith)
parts_less find goal (suc k) b hyps n e h r =
    let i : k ≡ b = omega arith in
    subst (λ b. in_parts find goal (suc k) hyps n e ≡ in_each find goal (in_parts find goal b) hyps n (operands Either e)) i refl
