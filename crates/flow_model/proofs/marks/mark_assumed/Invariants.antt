use Rattle.std.proofs.Common.{◌≡◌, drop, map}
use Rattle.cov_ast.specs.View as view
use Rattle.cov_ast.specs.Plain.{plain_thread}
use Rattle.flow_model.specs.Inside.{with_assumed}
use Rattle.flow_model.proofs.marks.mark_assumed.Given as goal

abbrev pub invariant-loop-thread : goal.invariant-loop-thread
invariant-loop-thread l =
    with_assumed l.marks (map plain_thread (map view.thread (drop l.thread-index l.p.threads)))
    ≡ with_assumed l.fn.marks (map plain_thread (map view.thread l.p.threads))
