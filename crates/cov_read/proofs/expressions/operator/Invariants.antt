use Rattle.std.proofs.Common.{◌≡◌}
use Rattle.cov_read.specs.Inside.Levels.{Skips}
use Rattle.cov_read.proofs.expressions.operator.Given as goal

-- no operator of the levels so far is next
abbrev pub invariant-loop-index : goal.invariant-loop-index
invariant-loop-index l = record {
  same : l.reader ≡ l.fn.reader;
  skips : Skips l.levels l.fn.from l.index l.fn.reader;
}
