use Rattle.std.proofs.Common.{◌≡◌, ◌++◌, drop, map}
use Rattle.cov_ast.specs.View as view
use Rattle.flow_model.specs.FirstDifference.{holders_of}
use Rattle.replay_reports.specs.RunReports as spec
use Rattle.replay_reports.proofs.run_reports.add_locks.Given as goal

-- the lines that are written, and those of what is left, are all of them
abbrev pub invariant-loop-l : goal.invariant-loop-l
invariant-loop-l l =
    let line = spec.lock_line (map view.thread l.threads) (holders_of l.holders) in
    l.text ++ spec.lines_from line l.l (map view.lock (drop l.l l.locks)) ≡ l.fn.text ++ spec.lines_from line 0 (map view.lock l.locks)
