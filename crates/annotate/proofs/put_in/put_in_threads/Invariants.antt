use Rattle.std.proofs.Common.{◌≡◌, map}
use Rattle.cov_ast.specs.View as view
use Rattle.annotate.specs.Inside.Choosing.{chosen_in}
use Rattle.annotate.specs.WithCertificates.{put_in_threads}
use Rattle.annotate.proofs.PuttingLaws.{threads_mixed}
use Rattle.annotate.proofs.put_in.put_in_threads.Given as goal

abbrev pub invariant-loop-t : goal.invariant-loop-t
invariant-loop-t l = threads_mixed (chosen_in l.chosen) l.t (map view.thread l.threads) ≡ put_in_threads (chosen_in l.chosen) 0 (map view.thread l.initial.threads)
