use Rattle.std.proofs.Common.{◌≡◌, ◌+◌, ◌≤◌, drop, length}
use Rattle.cov_ast.specs.View as view
use Rattle.cov_ast.specs.WellFormed.{block_size, places}
use Rattle.typing_rules.proofs.count.+statements.Given as goal

-- the statements so far and those of the rest are all; the rest is no larger than all
abbrev pub invariant-statements-loop-stmt : goal.invariant-statements-loop-stmt
invariant-statements-loop-stmt l =
    (l.count + length (places (view.block (drop l.stmt-index l.body))) ≡ length (places (view.block l.body)))
    × (block_size (view.block (drop l.stmt-index l.body)) ≤ block_size (view.block l.body))
