use Rattle.std.proofs.Common.{◌≡◌, ◌+◌, ◌++◌, drop, length}
use Rattle.cov_ast.specs.Plain.{plain}
use Rattle.cov_ast.specs.View as view
use Rattle.typing_trace.specs.PointLines as spec
use Rattle.typing_trace.proofs.points.add_questions.Given as goal

-- the lines so far, and those of what is left, are all of them
abbrev pub invariant-loop-i : goal.invariant-loop-i
invariant-loop-i l =
    l.text ++ spec.lines_from (plain (view.program l.p)) (l.i + 1) (length l.asked) (drop l.i l.asked) ≡ l.fn.text ++ spec.all_lines (plain (view.program l.p)) l.asked
