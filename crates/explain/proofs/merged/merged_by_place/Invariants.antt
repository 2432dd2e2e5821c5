use Rattle.std.proofs.Common.{◌≡◌, ◌++◌, drop}
use Rattle.explain.specs.Warnings as spec
use Rattle.explain.proofs.merged.merged_by_place.Given as goal

-- what is made, and what is left of both lists, is all of it
abbrev pub invariant-loop-warning : goal.invariant-loop-warning
invariant-loop-warning l = l.made ++ spec.merged_by_place (drop l.warning-index l.first) l.rest ≡ spec.merged_by_place l.first l.second
