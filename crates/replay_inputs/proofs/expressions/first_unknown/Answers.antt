use Rattle.std.proofs.Common.{false, arith}
use Rattle.cov_ast.specs.declared.parsed.NameUse.{NameUse}
use Rattle.replay_inputs.specs.Expressions as spec
use Rattle.replay_inputs.specs.Inside.{variables}
use Rattle.replay_inputs.proofs.ExpressionLaws.{unknown_more}
use Rattle.replay_inputs.proofs.expressions.first_unknown.Goals as goal

pub loop-used-preserved : goal.loop-used-preserved
loop-used-preserved c =
    let d : NameUse = record { name = 0; lock = false; at = 0 } in
    unknown_more (variables c.args.vars.now) c.args.names.now c.args.uses.now c.loop-used.used-index d
    (spec.first_unknown (variables c.args.vars.now) c.args.names.now c.args.uses.now) c.is_variable.result (omega (arith, c.loop-used-test.true))
    c.is_variable.ensures c.if-not-is_variable.false c.loop-used.invariant
