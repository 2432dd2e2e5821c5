use Rattle.std.proofs.Common.{◌≡◌, ◌++◌, drop, map}
use Rattle.cov_ast.specs.View as view
use Rattle.source_machine.specs.SourceMachine.{run_of}
use Rattle.replay_reports.specs.RunReports as spec
use Rattle.replay_reports.proofs.run_reports.add_threads.Given as goal

-- the lines that are written, and those of what is left, are all of them
abbrev pub invariant-loop-t : goal.invariant-loop-t
invariant-loop-t l =
    l.text ++ spec.lines_from (spec.thread_line (run_of l.source)) l.t (map view.thread (drop l.t l.threads))
    ≡ l.fn.text ++ spec.lines_from (spec.thread_line (run_of l.source)) 0 (map view.thread l.threads)
