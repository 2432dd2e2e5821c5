use Rattle.std.proofs.Common.{◌≡◌, ◌+◌, ◌*◌, ◌≤◌, drop, length}
use Rattle.cov_ast.specs.View as view
use Rattle.cov_ast.specs.WellFormed.{IsBlockInRange, block_size, stm_size}
use Rattle.point_law.specs.Point.{Point}
use Rattle.typing_state.specs.KeptPoints.{Keeps}
use Rattle.typing_points.specs.Traces.{plain_of}
use Rattle.typing_points.specs.PointsBehind.{behind_block}
use Rattle.typing_points.proofs.passing.Trace.+blocks.Given as goal

-- what is left is in range, and leads from the point that was reached to where all of it leads
abbrev pub invariant-pass_block-loop-stmt : goal.invariant-pass_block-loop-stmt
invariant-pass_block-loop-stmt l =
    let rest = view.block (drop l.stmt-index l.body) in
    IsBlockInRange (length l.self.program.now.vars) (length l.self.program.now.locks) rest
    × (block_size rest ≤ block_size (view.block l.body))
    × ((a : Point) → Keeps (plain_of l.self) l.self.thread a l.fn.point
    → (b : Point) × (Keeps (plain_of l.self) l.self.thread b l.here
    × (behind_block (plain_of l.self) l.self.thread rest b ≡ behind_block (plain_of l.self) l.self.thread (view.block l.body) a)))

-- a statement is smaller than the block that it stands in, and so is a block than its statement

abbrev pub decreases-pass_block : goal.decreases-pass_block
decreases-pass_block l = 3 * block_size (view.block l.body.now)

abbrev pub decreases-pass_statement : goal.decreases-pass_statement
decreases-pass_statement l = 3 * stm_size (view.kind l.kind.now) + 2

abbrev pub decreases-pass_branch : goal.decreases-pass_branch
decreases-pass_branch l = 3 * block_size (view.block l.first.now) + 1
