use Rattle.std.proofs.Common.{◌≡◌, replicate, false}
use Rattle.cov_ast.proofs.sets.NumberSet.new.Given as goal

abbrev pub invariant-loop : goal.invariant-loop
invariant-loop l = l.marks ≡ replicate l.counter false
