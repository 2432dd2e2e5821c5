use Rattle.std.proofs.Common.{refl, ◌++◌, drop, ◌+◌}
use Rattle.cov_ast.specs.View as view
use Rattle.cov_expr.specs.Trees.{occurrences}
use Rattle.cov_expr.specs.View.{term}
use Rattle.statement_parts.proofs.AssignedLaws.{added_of, adding_goes_on}
use Rattle.explain.specs.Inside.StatementWalks.{stm_reads, block_reads}
use Rattle.explain.proofs.Marking.{branch_reads, loop_reads, reads_next}
use Rattle.explain.proofs.uses.+blocks.Goals as goal

pub add_block-loop-stmt-preserved : goal.add_block-loop-stmt-preserved
add_block-loop-stmt-preserved t c =
    let ss = c.args.body.now in
    let i = c.loop-stmt.stmt-index in
    let s = c.stmt-item.result in
    adding_goes_on c.args.read.now c.loop-stmt.read c.add_kind.new.read (block_reads (view.block ss)) (stm_reads (view.kind s.kind))
    (block_reads (view.block (drop (i + 1) ss))) (block_reads (view.block (drop i ss)))
    c.loop-stmt.invariant (reads_next ss i s c.loop-stmt-test.true c.stmt-item.is) c.add_kind.ensures

pub add_kind-returns-in-If : goal.add_kind-returns-in-If
add_kind-returns-in-If t c =
    let e = occurrences (term c.in-If.e) in
    let a = block_reads (view.block c.in-If.a) in
    let b = block_reads (view.block c.in-If.b) in
    let first = rw c.as_slice.ensures at c.add_block.ensures in
    let second = rw c.as_slice-in-If.ensures at c.add_block-in-If.ensures in
    added_of c.args.read.now c.add_read-in-If.new.read c.add_block-in-If.new.read (stm_reads (view.kind c.args.kind.now)) e (a ++ b)
    (branch_reads c.args.kind.now c.in-If.e c.in-If.a c.in-If.b c.in-If.field-3 c.in-If.is) c.add_read-in-If.ensures
    (added_of c.add_read-in-If.new.read c.add_block.new.read c.add_block-in-If.new.read (a ++ b) a b refl first second)

pub add_kind-returns-in-While : goal.add_kind-returns-in-While
add_kind-returns-in-While t c =
    let e = occurrences (term c.in-While.e) in
    let b = block_reads (view.block c.in-While.b) in
    let second = rw c.as_slice-in-While.ensures at c.add_block-in-While.ensures in
    added_of c.args.read.now c.add_read-in-While.new.read c.add_block-in-While.new.read (stm_reads (view.kind c.args.kind.now)) e b
    (loop_reads c.args.kind.now c.in-While.e c.in-While.field-1 c.in-While.b c.in-While.is) c.add_read-in-While.ensures second
