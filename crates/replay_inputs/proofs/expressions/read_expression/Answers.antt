use Rattle.std.proofs.Common.{◌≡◌, sym, ap, ◌∙◌, subst, rules}
use Rattle.cov_ast.specs.View as view
use Rattle.cov_text.specs.Text.{expression_of}
use Rattle.policy_class.specs.Resolved.{var_names}
use Rattle.replay_inputs.specs.Expressions.{SpellsExpression}
use Rattle.replay_inputs.specs.Inside.{ResolvesTo, variables}
use Rattle.replay_inputs.proofs.ExpressionLaws.{same_variables, resolved_answered}
use Rattle.replay_inputs.proofs.expressions.read_expression.Goals as goal

pub returns-in-Ok-clause-read : goal.returns-in-Ok-clause-read
returns-in-Ok-clause-read c =
    let p = view.parsed c.args.parsed.now in
    let word = c.args.word.now in
    let answer = c.in-Ok.ensures.answer in
    let r = c.over_variables.result in
    let bytes : c.as_bytes.result.now ≡ word = search rules in
    let names : variables c.as_slice.result.now ≡ var_names p = ap variables c.as_slice.ensures ∙ sym (same_variables c.args.parsed.now.vars) in
    resolved_answered p word answer.0 r (subst (λ b. SpellsExpression b answer.0) bytes answer.1)
    (subst (λ declared. ResolvesTo declared (expression_of word answer.0) r) names
    (subst (λ x. ResolvesTo (variables c.as_slice.result.now) x r) (answer.2 ∙ ap (λ b. expression_of b answer.0) bytes) c.over_variables.ensures.placed))
