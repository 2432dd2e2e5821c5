use Rattle.std.proofs.Common.{◌≡◌, drop, map}
use Rattle.cov_expr.specs.View.{term}
use Rattle.point_law.specs.Terms.{with_terms}
use Rattle.typing_state.proofs.predicates.Predicates.add_all.Given as goal

abbrev pub invariant-loop-e : goal.invariant-loop-e
invariant-loop-e l = with_terms (map term l.self) (map term (drop l.e-index l.preds)) ≡ with_terms (map term l.fn.self) (map term l.preds)
