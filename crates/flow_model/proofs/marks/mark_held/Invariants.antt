use Rattle.std.proofs.Common.{◌≡◌, drop, map}
use Rattle.cov_ast.specs.View as view
use Rattle.flow_model.specs.FirstDifference.{holders_of}
use Rattle.flow_model.specs.Inside.{with_held}
use Rattle.flow_model.proofs.marks.mark_held.Given as goal

abbrev pub invariant-loop-l : goal.invariant-loop-l
invariant-loop-l l =
    with_held l.marks (holders_of (drop l.l l.h)) (map view.lock (drop l.l l.p.locks))
    ≡ with_held l.fn.marks (holders_of l.h) (map view.lock l.p.locks)
