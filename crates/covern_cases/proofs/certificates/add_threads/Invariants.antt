use Rattle.std.proofs.Common.{◌≡◌, ◌++◌, drop, map}
use Rattle.cov_ast.specs.View as view
use Rattle.covern_cases.specs.Claims.{thread_lines}
use Rattle.covern_cases.proofs.certificates.add_threads.Given as goal

-- what is written, and what is left, are all threads
abbrev pub invariant-loop-thread : goal.invariant-loop-thread
invariant-loop-thread l =
    l.out ++ thread_lines (map view.thread (drop l.thread-index l.threads))
    ≡ l.initial.out ++ thread_lines (map view.thread l.threads)
