use Rattle.std.proofs.Common.{◌≡◌, ◌++◌, ℕ, drop, map}
use Rattle.typing_rules.specs.Keeping.{view_searched}
use Rattle.annotate.specs.Inside.Choosing.{chosen_at}
use Rattle.annotate.specs.Inside.Searches.{found_at, opens, renumbered}
use Rattle.annotate.proofs.choosing.add_each.Given as goal

-- what is chosen so far, and what is left of what is found; and so for those that are open
abbrev pub invariant-loop-one : goal.invariant-loop-one
invariant-loop-one l = record {
  chosen : (place : ℕ)
      → chosen_at l.chosen place ++ map (renumbered l.numbers) (found_at (map view_searched (drop l.one-index l.searched)) place)
      ≡ chosen_at l.initial.chosen place ++ map (renumbered l.numbers) (found_at (map view_searched l.searched) place);
  unproved : l.unproved ++ opens l.t (map view_searched (drop l.one-index l.searched)) ≡ l.initial.unproved ++ opens l.t (map view_searched l.searched);
}
