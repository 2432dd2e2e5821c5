use Rattle.std.proofs.Common.{◌≡◌, ◌++◌, drop, map}
use Rattle.cov_ast.specs.View as view
use Rattle.replay_reports.specs.RunReports as spec
use Rattle.replay_reports.proofs.run_reports.add_pairs.Given as goal

-- the lines that are written, and those of what is left, are all of them
abbrev pub invariant-loop-x : goal.invariant-loop-x
invariant-loop-x l =
    let line = spec.pair_line l.left l.right in
    l.text ++ spec.lines_from line l.x (map view.var (drop l.x l.vars)) ≡ l.fn.text ++ spec.lines_from line 0 (map view.var l.vars)
