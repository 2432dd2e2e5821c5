use Rattle.std.proofs.Common.{◌≡◌, ◌++◌, map, reverse, length}
use Rattle.typing_law.specs.ThreadEntailments.{view_entail}
use Rattle.typing_rules.specs.Keeping.{copied_among, view_kept}
use Rattle.typing_rules.proofs.kept.copies.Given as goal

abbrev pub invariant-loop-item : goal.invariant-loop-item
invariant-loop-item l = map view_entail l.made ++ copied_among (map view_kept (reverse l.rest)) ≡ copied_among (map view_kept l.fn.kept)

abbrev pub decreases-loop-item : goal.decreases-loop-item
decreases-loop-item l = length l.rest
