use Rattle.std.proofs.Common.{All, map}
use Rattle.cov_ast.specs.View as view
use Rattle.thread_swap.specs.Replacements.{IsReplacement}
use Rattle.covern_cases.proofs.replaced.thousand.Given as goal

-- the threads so far may stand in their place
abbrev pub invariant-loop : goal.invariant-loop
invariant-loop l = All (IsReplacement (view.program l.program)) (map view.thread l.threads)
