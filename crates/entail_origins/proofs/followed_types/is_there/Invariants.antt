use Rattle.std.proofs.Common.{◌≡◌, drop}
use Rattle.entail_origins.specs.FollowedTypes as spec
use Rattle.entail_origins.proofs.followed_types.is_there.Given as goal

-- none of those so far is the variable at the point
abbrev pub invariant-loop-v : goal.invariant-loop-v
invariant-loop-v l = spec.is_there (drop l.v-index l.all) l.steps l.z ≡ spec.is_there l.all l.steps l.z
