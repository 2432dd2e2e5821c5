use Rattle.std.proofs.Common.{◌≡◌, ◌++◌, drop, map}
use Rattle.entail_origins.specs.FollowedTypes as spec
use Rattle.entail_origins.proofs.followed_types.at_point.Given as goal

-- those so far, and those of the variables that are left, are all
abbrev pub invariant-loop-z : goal.invariant-loop-z
invariant-loop-z l = l.made ++ map (spec.at_point l.steps) (drop l.z-index l.variables) ≡ map (spec.at_point l.steps) l.variables
