use Rattle.std.proofs.Common.{◌≡◌, map, drop, flat_map}
use Rattle.cov_text.specs.Limits as spec
use Rattle.cov_parse.specs.Inside.Measures.{counted}
use Rattle.cov_read.specs.DeclViews as views
use Rattle.cov_parse.proofs.counts.count_threads.Given as goal

abbrev pub invariant-loop-thread : goal.invariant-loop-thread
invariant-loop-thread l =
    counted l.left (flat_map (λ h. spec.places_of h.body) (map views.thread (drop l.thread-index l.threads))) ≡ counted l.fn.room (flat_map (λ h. spec.places_of h.body) (map views.thread l.threads))
