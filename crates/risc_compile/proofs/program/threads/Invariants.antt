use Rattle.std.proofs.Common.{◌≡◌, map}
use Rattle.std.specs.List.{range_with_len}
use Rattle.cov_ast.specs.Plain.{plain}
use Rattle.cov_ast.specs.View as view
use Rattle.compiled_code.specs.Compiled.{thread_code}
use Rattle.risc_compile.proofs.program.threads.Given as goal

-- the code of the threads so far
abbrev pub invariant-loop-t : goal.invariant-loop-t
invariant-loop-t l = l.made ≡ map (thread_code (plain (view.program l.program))) (range_with_len 0 l.t)
