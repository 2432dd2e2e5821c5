-- What an answer about the predicates of a point says.
use Rattle.std.specs.Prelude.{◌≡◌, ℕ, List, Bool, true}
use Rattle.cov_expr.specs.Term.{Term}
use Rattle.cov_ast.specs.Plain.{Plain}
use Rattle.typing_state.specs.declared.point.Point.{Point}
use Rattle.typing_state.specs.KeptPoints.{AtPoint}

-- Where the answer is yes, the predicates of whatever point this is kept of pass a test.
abbrev pub Shows : Point → Bool → (List Term → Bool) → Type 0
Shows kept answer test = (p : Plain) → (t : ℕ) → AtPoint p t kept (λ a. answer ≡ true → test a.preds ≡ true)
