use Rattle.std.proofs.Common.{◌≡◌, ◌++◌, drop, map}
use Rattle.cov_ast.specs.View as view
use Rattle.call_verdicts.specs.Annotations as spec
use Rattle.call_verdicts.proofs.annotations_reports.unproved_lines.Given as goal

-- the lines that are written, and those of what is left, are all of them
abbrev pub invariant-loop-entailment : goal.invariant-loop-entailment
invariant-loop-entailment l =
    l.lines ++ spec.unproved_lines (map view.thread l.threads) (drop l.entailment-index l.entailments) ≡ spec.unproved_lines (map view.thread l.threads) l.entailments
