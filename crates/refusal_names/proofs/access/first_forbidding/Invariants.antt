use Rattle.std.proofs.Common.{◌≡◌, drop, map}
use Rattle.cov_ast.specs.View as view
use Rattle.refusal_names.specs.ForbiddenAccess as spec
use Rattle.refusal_names.proofs.access.first_forbidding.Given as goal

-- the first of the locks that are left is the first of all
abbrev pub invariant-loop-number : goal.invariant-loop-number
invariant-loop-number l =
    spec.first_forbidding l.modes.held l.writes l.x l.number (map view.lock (drop l.number l.locks)) ≡ spec.first_forbidding l.modes.held l.writes l.x 0 (map view.lock l.locks)
