use Rattle.std.proofs.Common.{◌≡◌, ◌++◌, false, drop, map, flat_map}
use Rattle.cov_ast.specs.View as view
use Rattle.explain.specs.Inside.StatementWalks.{block_unreached}
use Rattle.explain.proofs.unreached.add_threads.Given as goal

-- what is found, with the rest, is all of it
abbrev pub invariant-loop-thread : goal.invariant-loop-thread
invariant-loop-thread l =
    l.found ++ flat_map (λ t. block_unreached false t.body) (map view.thread (drop l.thread-index l.threads))
    ≡ l.fn.found ++ flat_map (λ t. block_unreached false t.body) (map view.thread l.threads)
