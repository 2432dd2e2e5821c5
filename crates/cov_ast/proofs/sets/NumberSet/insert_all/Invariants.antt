use Rattle.std.proofs.Common.{◌≡◌, drop}
use Rattle.cov_ast.specs.Tables.{with_all}
use Rattle.cov_ast.proofs.sets.NumberSet.insert_all.Given as goal

abbrev pub invariant-loop-x : goal.invariant-loop-x
invariant-loop-x l = with_all l.self (drop l.x-index l.numbers) ≡ with_all l.fn.self l.numbers
