use Rattle.std.proofs.Common.{◌≡◌, drop, map}
use Rattle.cov_ast.specs.View as view
use Rattle.cov_ast.specs.Obligations.{first_false}
use Rattle.mode_compat.specs.Inside.{met_obligation}
use Rattle.mode_compat.proofs.pairs.check_met.Given as goal

abbrev pub invariant-loop-x : goal.invariant-loop-x
invariant-loop-x l =
    first_false (map (met_obligation (view.program l.p) (view.thread l.thread) (view.thread l.other) l.met) (drop l.x-index l.list))
    ≡ first_false (map (met_obligation (view.program l.p) (view.thread l.thread) (view.thread l.other) l.met) l.list)
