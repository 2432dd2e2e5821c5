use Rattle.std.proofs.Common.{◌≤◌, ap, sym, ◌∙◌, arith}
use Rattle.std.proofs.lemmas.Bool.Decides.{nat_tests}
use Rattle.cov_ast.specs.View as view
use Rattle.source_machine.specs.Inside.Entries.{height}
use Rattle.source_machine.specs.Inside.Stacks.{stack_of}
use Rattle.source_machine.proofs.StackLaws.{pushed, entered_some, height_some}
use Rattle.source_machine.proofs.thread.enter.Goals as goal

pub push_reserved-requires : goal.push_reserved-requires
push_reserved-requires c =
    let h : 1 ≤ height (view.block c.args.block.now) = height_some c.without_notes-block.result.now (view.block c.args.block.now) c.without_notes-block.ensures (grind (arith, nat_tests)) in
    omega arith

pub returns-then-not-is_empty-clause-stack : goal.returns-then-not-is_empty-clause-stack
returns-then-not-is_empty-clause-stack c =
    ap stack_of c.push_reserved.ensures.items
    ∙ pushed c.args.frames.now.items c.without_notes-block.result
    ∙ sym (entered_some c.without_notes-block.result.now (view.block c.args.block.now) (stack_of c.args.frames.now.items) c.without_notes-block.ensures (grind (arith, nat_tests)))
