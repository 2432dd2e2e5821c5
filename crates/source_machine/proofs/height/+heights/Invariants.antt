use Rattle.std.proofs.Common.{◌≡◌, ◌≤◌, max, drop}
use Rattle.cov_ast.specs.View as view
use Rattle.cov_ast.specs.WellFormed.{block_size}
use Rattle.source_machine.specs.Inside.Entries.{height}
use Rattle.source_machine.proofs.height.+heights.Given as goal

-- the highest so far and the rest are as high as the block, and the rest is no larger
abbrev pub invariant-height-loop-stmt : goal.invariant-height-loop-stmt
invariant-height-loop-stmt l = record {
  highest : height (view.block l.block) ≡ max l.most (height (view.block (drop l.stmt-index l.block)));
  rest : block_size (view.block (drop l.stmt-index l.block)) ≤ block_size (view.block l.block);
}
