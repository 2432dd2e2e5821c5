use Rattle.std.proofs.Common.{All, take}
use Rattle.cov_expr.specs.Names.{IsName}
use Rattle.annotate.proofs.numbers.past.Given as goal

abbrev pub invariant-loop-number : goal.invariant-loop-number
invariant-loop-number l = All IsName (take l.number l.names)
