use Rattle.std.proofs.Common.{◌≡◌, drop, map}
use Rattle.cov_ast.specs.View as view
use Rattle.annotate.specs.AnnotatedText.{parts_in_threads}
use Rattle.annotate.specs.Inside.Choosing.{chosen_in}
use Rattle.annotate.specs.Inside.Going.{halfway, parts_gone}
use Rattle.annotate.proofs.uses.Uses.add_threads.Given as goal

-- behind the threads that are left it stands as behind all of them
abbrev pub invariant-loop-t : goal.invariant-loop-t
invariant-loop-t l =
    parts_gone (parts_in_threads (chosen_in l.chosen) l.t (map view.thread (drop l.t l.threads))) (halfway l.self)
    ≡ parts_gone (parts_in_threads (chosen_in l.chosen) 0 (map view.thread l.threads)) (halfway l.fn.self)
