use Rattle.std.proofs.Common.{◌≡◌, drop, map}
use Rattle.statement_paths.specs.Paths as paths
use Rattle.entail_refused.specs.OnTheWay.{with_steps}
use Rattle.entail_refused.proofs.on_the_way.stored_before.Given as goal

-- what was added so far, and with the rest, is what all steps add
abbrev pub invariant-loop-step : goal.invariant-loop-step
invariant-loop-step l = with_steps l.stored (map paths.step (drop l.step-index l.steps)) ≡ with_steps l.initial.stored (map paths.step l.steps)
