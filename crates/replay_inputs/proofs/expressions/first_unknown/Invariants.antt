use Rattle.std.proofs.Common.{◌≡◌, drop}
use Rattle.replay_inputs.specs.Expressions as spec
use Rattle.replay_inputs.specs.Inside.{variables}
use Rattle.replay_inputs.proofs.expressions.first_unknown.Given as goal

-- the first of what is left is the first of all
abbrev pub invariant-loop-used : goal.invariant-loop-used
invariant-loop-used l =
    spec.first_unknown (variables l.vars) l.names (drop l.used-index l.uses) ≡ spec.first_unknown (variables l.vars) l.names l.uses
