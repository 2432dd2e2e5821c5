use Rattle.std.proofs.Common.{◌≡◌, map, drop}
use Rattle.statement_paths.specs.Paths.{step}
use Rattle.statement_paths.specs.LocksHeld as spec
use Rattle.statement_paths.proofs.walk.modes_along.Given as goal

-- the locks behind the steps that are left are those behind all
abbrev pub invariant-loop-next : goal.invariant-loop-next
invariant-loop-next l =
    record l.modes { held = spec.held_along (map step (drop l.next-index l.steps)) l.modes.held }
    ≡ record l.initial.modes { held = spec.held_along (map step l.steps) l.initial.modes.held }
