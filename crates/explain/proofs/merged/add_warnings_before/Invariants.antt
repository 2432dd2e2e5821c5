use Rattle.std.proofs.Common.{◌≡◌, ◌++◌, drop}
use Rattle.explain.specs.Warnings as spec
use Rattle.explain.proofs.merged.add_warnings_before.Given as goal

-- the warnings so far are in front of the place
abbrev pub invariant-loop-i : goal.invariant-loop-i
invariant-loop-i l =
    (l.made ++ spec.warnings_before l.place (drop l.i l.warnings) ≡ l.fn.made ++ spec.warnings_before l.place l.warnings)
    × (spec.warnings_from l.place (drop l.i l.warnings) ≡ spec.warnings_from l.place l.warnings)
