use Rattle.std.proofs.Common.{◌≡◌, ◌++◌, map, drop}
use Rattle.cov_ast.specs.View as view
use Rattle.statement_paths.specs.Paths as spec
use Rattle.statement_paths.proofs.ends.add_passed.Given as goal

-- the steps so far, and those past what is left, are all of them
abbrev pub invariant-loop-stmt : goal.invariant-loop-stmt
invariant-loop-stmt l =
    map spec.step l.steps ++ spec.passed_all (view.block (drop l.stmt-index l.block)) ≡ map spec.step l.fn.steps ++ spec.passed_all (view.block l.block)
