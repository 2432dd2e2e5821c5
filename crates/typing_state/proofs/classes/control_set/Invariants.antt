use Rattle.std.proofs.Common.{◌≡◌, drop, map, length, replicate, false}
use Rattle.cov_ast.specs.Tables.{with_all}
use Rattle.cov_ast.specs.View as view
use Rattle.typing_state.proofs.TypeLaws.{all_controls}
use Rattle.typing_state.proofs.classes.control_set.Given as goal

abbrev pub invariant-loop-var : goal.invariant-loop-var
invariant-loop-var l =
    with_all l.controls (all_controls (map view.var (drop l.var-index l.p.vars))) ≡ with_all (replicate (length l.p.vars) false) (all_controls (map view.var l.p.vars))
