use Rattle.std.proofs.Common.{◌≡◌, drop, flat_map, map}
use Rattle.cov_ast.specs.Ready.{uses_in_lock}
use Rattle.cov_ast.specs.View as view
use Rattle.annotate.specs.declared.uses.Way.TheVariants.{Keep}
use Rattle.annotate.specs.Inside.Going.{gone, halfway}
use Rattle.annotate.proofs.uses.Uses.keep_locks.Given as goal

-- behind what is left of the uses it stands as behind all of them
abbrev pub invariant-loop-lock : goal.invariant-loop-lock
invariant-loop-lock l =
    gone Keep (flat_map uses_in_lock (map view.lock (drop l.lock-index l.locks))) (halfway l.self) ≡ gone Keep (flat_map uses_in_lock (map view.lock l.locks)) (halfway l.fn.self)
