use Rattle.std.proofs.Common.{◌≡◌, ℕ, ◌+◌, ◌*◌, ◌≤◌, drop, length}
use Rattle.cov_ast.specs.Plain.{Plain, plain_block}
use Rattle.cov_ast.specs.View as view
use Rattle.cov_ast.specs.WellFormed.{IsBlockInRange, block_size, stm_size}
use Rattle.cov_expr.specs.Trees.{nodes}
use Rattle.cov_expr.specs.View.{term}
use Rattle.risc_compile.specs.Inside.{Stands, after}
use Rattle.risc_compile.proofs.emitter.Emitter.+statements.Given as goal

-- what is left is in range and small enough, and what comes after it is what comes after the whole block
abbrev pub invariant-block-loop-stmt : goal.invariant-block-loop-stmt
invariant-block-loop-stmt l =
    let rest = view.block (drop l.stmt-index l.body) in
    let whole = view.block l.body in
    (length l.fn.self.lines ≤ length l.self.lines)
    × (block_size rest ≤ block_size whole)
    × (length l.self.lines + 3 * block_size rest ≤ length l.fn.self.lines + 3 * block_size whole)
    × ((p : Plain) (t : ℕ) → Stands p t l.fn.self → IsBlockInRange (length p.vars) (length p.locks) whole
    → Stands p t l.self × IsBlockInRange (length p.vars) (length p.locks) rest × (after p t (plain_block rest) l.self ≡ after p t (plain_block whole) l.fn.self))

-- a statement is smaller than the block that it stands in, and so is a block than its statement

abbrev pub decreases-block : goal.decreases-block
decreases-block l = 3 * block_size (view.block l.body.now)

abbrev pub decreases-statement : goal.decreases-statement
decreases-statement l = 3 * stm_size (view.kind l.kind.now) + 2

abbrev pub decreases-branch : goal.decreases-branch
decreases-branch l = 3 * (nodes (term l.e.now) + block_size (view.block l.yes.now) + block_size (view.block l.no.now)) + 1

abbrev pub decreases-while_loop : goal.decreases-while_loop
decreases-while_loop l = 3 * (nodes (term l.e.now) + block_size (view.block l.body.now)) + 1

abbrev pub decreases-guarded : goal.decreases-guarded
decreases-guarded l = 3 * block_size (view.block l.body.now) + 1
