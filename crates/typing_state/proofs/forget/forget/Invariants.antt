use Rattle.std.proofs.Common.{◌≡◌, ◌-◌, length, map, option_map}
use Rattle.cov_expr.specs.View.{term}
use Rattle.cov_ast.specs.Plain.{plain}
use Rattle.cov_ast.specs.View as view
use Rattle.typing_state.specs.Inside.Forgotten.{AreFit, left}
use Rattle.typing_state.specs.Inside.Tells.{AtEach}
use Rattle.point_law.proofs.Steps.{upto}
use Rattle.typing_state.proofs.forget.forget.Given as goal

abbrev pub decreases-loop-z : goal.decreases-loop-z
decreases-loop-z l = length l.p.vars - l.from

abbrev pub invariant-loop-z : goal.invariant-loop-z
invariant-loop-z l =
    AtEach (plain (view.program l.p)) l.modes l.variables (λ t held. AreFit (plain (view.program l.p)) t held l.which (map (option_map term) l.fn.types)
    → map (option_map term) l.types ≡ upto (left (plain (view.program l.p)) t held l.which) (map (option_map term) l.fn.types) l.from)
