use Rattle.std.proofs.Common.{◌≡◌, ◌+◌, ◌++◌, drop, map}
use Rattle.cov_expr.specs.View.{term}
use Rattle.entail_text.specs.EntailmentLines as spec
use Rattle.entail_text.proofs.entailment.add_hypotheses.Given as goal

-- the lines so far, and those of what is left, are all of them
abbrev pub invariant-loop-i : goal.invariant-loop-i
invariant-loop-i l =
    l.text ++ spec.lines_from l.names l.remarks (l.i + 1) (map term (drop l.i l.hyps)) ≡ l.fn.text ++ spec.hypothesis_lines l.names l.remarks (map term l.hyps)
