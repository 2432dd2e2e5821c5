use Rattle.std.proofs.Common.{◌≡◌, drop, map}
use Rattle.cov_ast.specs.View as view
use Rattle.cov_ast.specs.Obligations.{first_false}
use Rattle.lock_spec.specs.Inside.{marked_from}
use Rattle.lock_spec.proofs.locks.check_listings.Given as goal

abbrev pub invariant-loop-lock : goal.invariant-loop-lock
invariant-loop-lock l =
    first_false (marked_from (view.program l.p) l.seen (map view.lock (drop l.lock-index l.p.locks)))
    ≡ first_false (marked_from (view.program l.p) l.fn.seen (map view.lock l.p.locks))
