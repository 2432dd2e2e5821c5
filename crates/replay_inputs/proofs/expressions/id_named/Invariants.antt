use Rattle.std.proofs.Common.{◌≡◌, ◌+◌, drop}
use Rattle.cov_ast.specs.NameTables.{number_of}
use Rattle.replay_inputs.specs.Inside.{variables}
use Rattle.replay_inputs.proofs.expressions.id_named.Given as goal

-- none of those that were looked at has the name
abbrev pub invariant-loop-x : goal.invariant-loop-x
invariant-loop-x l = l.x + number_of (variables (drop l.x l.vars)) l.name ≡ number_of (variables l.vars) l.name
