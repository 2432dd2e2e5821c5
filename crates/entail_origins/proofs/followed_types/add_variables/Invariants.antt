use Rattle.std.proofs.Common.{◌≡◌, drop}
use Rattle.entail_origins.specs.FollowedTypes as spec
use Rattle.entail_origins.proofs.followed_types.add_variables.Given as goal

-- those so far, with the variables that are left, are all
abbrev pub invariant-loop-z : goal.invariant-loop-z
invariant-loop-z l =
    spec.with_variables l.most l.controls l.steps l.all (drop l.z-index l.variables) ≡ spec.with_variables l.most l.controls l.steps l.fn.all l.variables
