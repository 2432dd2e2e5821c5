use Rattle.std.proofs.Common.{◌≡◌, drop, map}
use Rattle.statement_paths.specs.Paths as paths
use Rattle.entail_origins.specs.TypeOrigins as spec
use Rattle.entail_origins.proofs.type_steps.origin_along.Given as goal

-- the origin so far, with the steps that are left, is that of all
abbrev pub invariant-loop-index : goal.invariant-loop-index
invariant-loop-index l =
    spec.origin_after_steps l.controls l.locks l.z l.index (map paths.step (drop l.index l.steps)) l.so_far
    ≡ spec.origin_along l.controls l.locks l.z (map paths.step l.steps)
