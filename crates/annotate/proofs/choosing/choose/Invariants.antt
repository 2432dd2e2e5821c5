use Rattle.std.proofs.Common.{◌≡◌, ◌<◌, ◌++◌, ℕ, length, drop, map}
use Rattle.std.specs.List.{flat_map}
use Rattle.cov_ast.specs.View as view
use Rattle.mode_compat.specs.Compatible.{threads_of}
use Rattle.annotate.specs.Annotated.{choices, open_of}
use Rattle.annotate.specs.NotFound.{not_found, not_found_in_thread}
use Rattle.annotate.specs.Inside.Choosing.{chosen_in}
use Rattle.annotate.specs.Inside.Searches.{renumbered}
use Rattle.annotate.proofs.choosing.choose.Given as goal

-- what is chosen for the threads before, and those of them that are open in front of those of the others
abbrev pub invariant-loop-t : goal.invariant-loop-t
invariant-loop-t l = record {
  count : length l.made ≡ l.t;
  chosen : (u place : ℕ) → u < l.t → chosen_in l.made u place ≡ map (renumbered l.numbers) (choices l.depth (view.program l.q) u place);
  unproved :
      l.unproved ++ flat_map (λ u. map (open_of u) (not_found_in_thread l.depth (view.program l.q) u)) (drop l.t (threads_of (view.program l.q)))
      ≡ l.initial.unproved ++ not_found l.depth (view.program l.q);
}
