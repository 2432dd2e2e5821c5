use Rattle.std.proofs.Common.{◌≡◌, drop, map}
use Rattle.cov_ast.specs.View as view
use Rattle.flow_model.specs.Inside.{with_controls}
use Rattle.flow_model.proofs.marks.mark_controls.Given as goal

abbrev pub invariant-loop-var : goal.invariant-loop-var
invariant-loop-var l = with_controls l.marks (map view.var (drop l.var-index l.p.vars)) ≡ with_controls l.fn.marks (map view.var l.p.vars)
