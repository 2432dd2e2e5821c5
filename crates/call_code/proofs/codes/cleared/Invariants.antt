use Rattle.std.proofs.Common.{◌≡◌}
use Rattle.call_code.specs.Codes as spec
use Rattle.call_code.proofs.codes.cleared.Given as goal

abbrev pub invariant-loop : goal.invariant-loop
invariant-loop l = l.rows ≡ spec.cleared l.counter
