use Rattle.std.proofs.Common.{◌≡◌, ◌++◌, ℕ, drop, map}
use Rattle.annotate.specs.Inside.Choosing.{chosen_at}
use Rattle.annotate.specs.Inside.Searches.{renumbered}
use Rattle.deeper_text.specs.DeeperText as spec
use Rattle.deeper_text.specs.Inside.{found}
use Rattle.deeper_text.proofs.chosen.choose_in.Given as goal

-- what is chosen so far, and what is left of what is found, is what is found for the thread
abbrev pub invariant-loop-one : goal.invariant-loop-one
invariant-loop-one l = (place : ℕ)
    → chosen_at l.made place ++ map (renumbered l.numbers) (spec.chosen_among (map found (drop l.one-index l.all)) l.t place)
    ≡ map (renumbered l.numbers) (spec.chosen_among (map found l.all) l.t place)
