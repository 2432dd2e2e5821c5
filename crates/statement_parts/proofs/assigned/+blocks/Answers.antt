use Rattle.std.proofs.Common.{◌++◌, drop, ◌+◌}
use Rattle.cov_ast.specs.View as view
use Rattle.statement_parts.specs.Parts.{assigned, collected, collected_in}
use Rattle.statement_parts.proofs.AssignedLaws.{added_of, adding_goes_on, assigned_next, branch_assigned}
use Rattle.statement_parts.proofs.assigned.+blocks.Goals as goal

pub add_assigned-loop-stmt-preserved : goal.add_assigned-loop-stmt-preserved
add_assigned-loop-stmt-preserved t c =
    let ss = c.args.body.now in
    let i = c.loop-stmt.stmt-index in
    let s = c.stmt-item.result in
    adding_goes_on c.args.stored.now c.loop-stmt.stored c.add_of_kind.new.stored (collected_in assigned (view.block ss)) (collected assigned (view.kind s.kind))
    (collected_in assigned (view.block (drop (i + 1) ss))) (collected_in assigned (view.block (drop i ss)))
    c.loop-stmt.invariant (assigned_next ss i s c.loop-stmt-test.true c.stmt-item.is) c.add_of_kind.ensures

pub add_of_kind-returns-in-If : goal.add_of_kind-returns-in-If
add_of_kind-returns-in-If t c =
    let a = collected_in assigned (view.block c.in-If.a) in
    let b = collected_in assigned (view.block c.in-If.b) in
    let first = rw c.as_slice.ensures at c.add_assigned.ensures in
    let second = rw c.as_slice-in-If.ensures at c.add_assigned-in-If.ensures in
    added_of c.args.stored.now c.add_assigned.new.stored c.add_assigned-in-If.new.stored (collected assigned (view.kind c.args.kind.now)) a b
    (branch_assigned c.args.kind.now c.in-If.field-0 c.in-If.a c.in-If.b c.in-If.field-3 c.in-If.is) first second
