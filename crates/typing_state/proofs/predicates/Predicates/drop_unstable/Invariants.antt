use Rattle.std.proofs.Common.{◌≡◌, ◌≤◌, length, map}
use Rattle.std.specs.Prelude.{filter}
use Rattle.cov_expr.specs.View.{term}
use Rattle.cov_ast.specs.Plain.{plain}
use Rattle.cov_ast.specs.View as view
use Rattle.point_law.specs.AtModes.{AtModes}
use Rattle.point_law.specs.Point.{is_over_stable}
use Rattle.typing_state.proofs.DropLaws.{left_from}
use Rattle.typing_state.proofs.predicates.Predicates.drop_unstable.Given as goal

abbrev pub invariant-loop-end : goal.invariant-loop-end
invariant-loop-end l =
    (l.end ≤ length l.self)
    × AtModes (plain (view.program l.p)) l.modes (λ t held.
    left_from (is_over_stable (plain (view.program l.p)) t held) (map term l.self) l.end
    ≡ filter (is_over_stable (plain (view.program l.p)) t held) (map term l.fn.self))

abbrev pub decreases-loop-end : goal.decreases-loop-end
decreases-loop-end l = l.end
