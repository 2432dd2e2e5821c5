use Rattle.std.proofs.Common.{◌≡◌, drop, map}
use Rattle.cov_ast.specs.View as view
use Rattle.cov_ast.specs.Obligations.{first_false}
use Rattle.mode_compat.specs.Inside.{apart_obligation}
use Rattle.mode_compat.proofs.locked.check_list.Given as goal

abbrev pub invariant-loop-x : goal.invariant-loop-x
invariant-loop-x l =
    first_false (map (apart_obligation (view.program l.p) (view.thread l.thread) l.locked) (drop l.x-index l.list))
    ≡ first_false (map (apart_obligation (view.program l.p) (view.thread l.thread) l.locked) l.list)
