use Rattle.std.proofs.Common.{◌≡◌, ◌++◌, drop, map, option_map}
use Rattle.cov_ast.specs.View as view
use Rattle.refusal_names.specs.LockChanges as spec
use Rattle.refusal_names.proofs.changes.add_changes.Given as goal

-- what is written, and the lines of the locks that are left, are all of it
abbrev pub invariant-loop-number : goal.invariant-loop-number
invariant-loop-number l =
    let other = option_map (λ b. view.block b.now) l.other in
    l.text ++ spec.changes l.bytes l.end.held l.there.held (view.block l.a) other l.number (map view.lock (drop l.number l.locks))
    ≡ l.fn.text ++ spec.changes l.bytes l.end.held l.there.held (view.block l.a) other 0 (map view.lock l.locks)
