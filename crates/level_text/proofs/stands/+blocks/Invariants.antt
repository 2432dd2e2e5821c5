use Rattle.std.proofs.Common.{◌≡◌, drop}
use Rattle.cov_ast.specs.View as view
use Rattle.level_text.specs.TextFaults.{in_block}
use Rattle.level_text.proofs.stands.+blocks.Given as goal

abbrev pub invariant-in_block-loop-stmt : goal.invariant-in_block-loop-stmt
invariant-in_block-loop-stmt l = in_block l.m (view.block (drop l.stmt-index l.body)) ≡ in_block l.m (view.block l.body)
