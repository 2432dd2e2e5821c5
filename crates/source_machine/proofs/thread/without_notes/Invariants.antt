use Rattle.std.proofs.Common.{◌≡◌, drop}
use Rattle.cov_ast.specs.View as view
use Rattle.source_machine.specs.Inside.Entries.{without_notes}
use Rattle.source_machine.proofs.thread.without_notes.Given as goal

-- all so far are notes
abbrev pub invariant-loop-i : goal.invariant-loop-i
invariant-loop-i l = without_notes (view.block l.block) ≡ without_notes (view.block (drop l.i l.block))
