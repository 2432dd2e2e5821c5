use Rattle.std.proofs.Common.{◌≡◌, ◌++◌, drop}
use Rattle.cov_ast.specs.View as view
use Rattle.code_lines.specs.CodeLines as spec
use Rattle.code_lines.proofs.threads.add_code_lines.Given as goal

-- the threads so far, and those that are left, are all of them
abbrev pub invariant-loop-t : goal.invariant-loop-t
invariant-loop-t l =
    l.text ++ spec.threads_from l.bytes l.parts (spec.bodies_of (view.program l.p).threads) l.t (drop l.t l.parts.threads)
    ≡ l.fn.text ++ spec.code_lines (view.program l.p) l.parts l.bytes
