use Rattle.std.proofs.Common.{◌+◌, ◌*◌, ◌≤◌, drop, length}
use Rattle.cov_expr.specs.View.{term}
use Rattle.cov_ast.specs.Syntax.{branch, loop}
use Rattle.cov_ast.specs.View as view
use Rattle.cov_ast.specs.WellFormed.{IsBlockInRange, block_size, stm_size}
use Rattle.typing_state.specs.KeptPoints.{Keeps}
use Rattle.point_law.specs.Point.{Point}
use Rattle.typing_rules.specs.Inside.Walking.{HasTypesBelow, plain_of}
use Rattle.typing_rules.proofs.Walks.{Reaches}
use Rattle.typing_rules.proofs.walk.Walk.+walk.Given as goal

-- what is left is in range and small, and from the point that was reached it decides like the whole
abbrev pub invariant-block-loop-stmt : goal.invariant-block-loop-stmt
invariant-block-loop-stmt l =
    let rest = view.block (drop l.stmt-index l.body) in
    IsBlockInRange (length l.self.program.now.vars) (length l.self.program.now.locks) rest
    × (block_size rest ≤ block_size (view.block l.body))
    × ((a : Point) → Keeps (plain_of l.self) l.self.thread a l.fn.point → HasTypesBelow a (length l.self.program.now.vars)
    → (b : Point) × (Keeps (plain_of l.self) l.self.thread b l.here × HasTypesBelow b (length l.self.program.now.vars)
    × Reaches l.self.purpose (plain_of l.self) l.self.thread (view.block l.body) a rest b l.entailments l.initial.kept l.kept))

-- a statement is smaller than the block that it stands in, and so is a block than its statement

abbrev pub decreases-block : goal.decreases-block
decreases-block l = 3 * block_size (view.block l.body.now)

abbrev pub decreases-statement : goal.decreases-statement
decreases-statement l = 3 * stm_size (view.kind l.kind.now) + 2

abbrev pub decreases-branch : goal.decreases-branch
decreases-branch l = 3 * stm_size (branch (term l.e.now) (view.block l.yes.now) (view.block l.no.now) (view.state l.join.now)) + 1

abbrev pub decreases-while_loop : goal.decreases-while_loop
decreases-while_loop l = 3 * stm_size (loop (term l.e.now) (view.state l.inv.now) (view.block l.body.now)) + 1
