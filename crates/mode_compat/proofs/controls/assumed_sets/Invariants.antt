use Rattle.std.proofs.Common.{◌≡◌, ◌++◌, drop, map, length}
use Rattle.cov_ast.specs.Tables.{table}
use Rattle.cov_ast.specs.Declarations.{have_assumed}
use Rattle.cov_ast.specs.View as view
use Rattle.mode_compat.proofs.controls.assumed_sets.Given as goal

abbrev pub invariant-loop-thread : goal.invariant-loop-thread
invariant-loop-thread l =
    l.sets ++ map (λ t. table (length l.p.vars) (have_assumed (view.modes t.modes))) (drop l.thread-index l.p.threads)
    ≡ map (λ t. table (length l.p.vars) (have_assumed (view.modes t.modes))) l.p.threads
