use Rattle.std.proofs.Common.{◌≡◌, ◌++◌, drop, map}
use Rattle.cov_ast.specs.View as view
use Rattle.replay_reports.specs.CodeReports as spec
use Rattle.replay_reports.specs.RunReports.{lines_from}
use Rattle.replay_reports.proofs.code_reports.add_code_threads.Given as goal

-- the lines that are written, and those of what is left, are all of them
abbrev pub invariant-loop-t : goal.invariant-loop-t
invariant-loop-t l =
    let line = spec.code_thread_line l.risc.parts l.risc.state in
    l.text ++ lines_from line l.t (map view.thread (drop l.t l.threads)) ≡ l.fn.text ++ lines_from line 0 (map view.thread l.threads)
