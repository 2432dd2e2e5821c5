use Rattle.std.proofs.Common.{◌≡◌, ◌++◌, map, reverse, length}
use Rattle.typing_rules.specs.Keeping.{sought_among, view_kept, view_searched}
use Rattle.typing_rules.proofs.kept.searches.Given as goal

abbrev pub invariant-loop-item : goal.invariant-loop-item
invariant-loop-item l = map view_searched l.made ++ sought_among (map view_kept (reverse l.rest)) ≡ sought_among (map view_kept l.fn.kept)

abbrev pub decreases-loop-item : goal.decreases-loop-item
decreases-loop-item l = length l.rest
