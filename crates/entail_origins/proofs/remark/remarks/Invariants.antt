use Rattle.std.proofs.Common.{◌≡◌, ◌++◌, drop, map}
use Rattle.cov_expr.specs.View.{term}
use Rattle.cov_ast.specs.Plain.{plain}
use Rattle.cov_ast.specs.View as view
use Rattle.statement_paths.specs.Paths as paths
use Rattle.entail_origins.specs.Remarks as spec
use Rattle.entail_origins.proofs.remark.remarks.Given as goal

-- the remarks so far, and those on what is left, are all of them
abbrev pub invariant-loop-i : goal.invariant-loop-i
invariant-loop-i l =
    l.made ++ spec.remarks (plain (view.program l.p)) l.bytes (map paths.step l.steps) l.asked_with_goal (map term (drop l.i l.hypotheses))
    ≡ spec.remarks (plain (view.program l.p)) l.bytes (map paths.step l.steps) l.asked_with_goal (map term l.hypotheses)
