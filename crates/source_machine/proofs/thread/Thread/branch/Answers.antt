use Rattle.std.proofs.Common.{length, ap, arith}
use Rattle.cov_ast.specs.View as view
use Rattle.source_machine.specs.Inside.Entries.{outer}
use Rattle.source_machine.specs.Inside.Stacks.{frames_of}
use Rattle.source_machine.proofs.FrameLaws.{length_entered}
use Rattle.source_machine.proofs.thread.Thread.branch.Goals.{then-word-ne0, else-word-ne0}
use Rattle.source_machine.proofs.thread.Thread.branch.Goals as goal

pub go_into-requires : goal.go_into-requires
go_into-requires c =
    let n = length_entered (view.block c.args.rest.now) (outer (frames_of c.args.self.now)) in
    let k = ap length c.pass.ensures.frames in
    let room = c.requires.room in
    elim c.if-word-ne0.branch [
      | then-word-ne0 w ↦ rw w.go_into-is (omega arith)
      | else-word-ne0 w ↦ rw w.go_into-is (omega arith)
    ]
