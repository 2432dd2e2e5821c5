use Rattle.std.proofs.Common.{◌≡◌, ◌<◌, ℕ, length, map}
use Rattle.annotate.specs.Inside.Choosing.{chosen_in}
use Rattle.annotate.specs.Inside.Searches.{renumbered}
use Rattle.deeper_text.specs.DeeperText as spec
use Rattle.deeper_text.specs.Inside.{found}
use Rattle.deeper_text.proofs.chosen.choose_found.Given as goal

-- what is found for the threads before
abbrev pub invariant-loop-t : goal.invariant-loop-t
invariant-loop-t l = record {
  count : length l.made ≡ l.t;
  chosen : (u place : ℕ) → u < l.t → chosen_in l.made u place ≡ map (renumbered l.numbers) (spec.chosen_among (map found l.all) u place);
}
