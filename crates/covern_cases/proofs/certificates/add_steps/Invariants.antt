use Rattle.std.proofs.Common.{◌≡◌, ◌++◌, drop}
use Rattle.covern_cases.specs.Claims.{steps}
use Rattle.covern_cases.proofs.certificates.add_steps.Given as goal

-- what is written, and what is left, are the whole list
abbrev pub invariant-loop-step : goal.invariant-loop-step
invariant-loop-step l = l.out ++ steps (drop l.step-index l.steps) ≡ l.initial.out ++ steps l.steps
