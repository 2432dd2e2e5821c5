use Rattle.std.proofs.Common.{◌≡◌, ◌++◌, drop, map, length}
use Rattle.mode_compat.specs.Inside.{guaranteed_by}
use Rattle.mode_compat.proofs.pairs.guaranteed_sets.Given as goal

abbrev pub invariant-loop-thread : goal.invariant-loop-thread
invariant-loop-thread l = l.sets ++ map (guaranteed_by (length l.p.vars)) (drop l.thread-index l.p.threads) ≡ map (guaranteed_by (length l.p.vars)) l.p.threads
