use Rattle.std.proofs.Common.{◌≡◌, drop, map}
use Rattle.cov_expr.specs.View.{term}
use Rattle.cov_ast.specs.Obligations.{first_false}
use Rattle.cov_ast.specs.Plain.{plain}
use Rattle.cov_ast.specs.View as view
use Rattle.typing_law.specs.ThreadObligations.{over_stable}
use Rattle.typing_state.specs.KeptPoints.{AtPoint}
use Rattle.typing_rules.proofs.types.check_preds.Given as goal

abbrev pub invariant-loop-e : goal.invariant-loop-e
invariant-loop-e l =
    AtPoint (plain (view.program l.p)) l.site.thread l.point (λ a.
    first_false (map (over_stable (plain (view.program l.p)) l.site.thread l.site.place a.held) (map term (drop l.e-index l.preds)))
    ≡ first_false (map (over_stable (plain (view.program l.p)) l.site.thread l.site.place a.held) (map term l.preds)))
