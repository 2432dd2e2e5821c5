use Rattle.std.proofs.Common.{◌≡◌, ◌<◌, None, length, sym, ap, subst, rules, arith}
use Rattle.std.proofs.lemmas.List.{length-map}
use Rattle.cov_ast.specs.declared.decl.VarDecl.{VarDecl}
use Rattle.cov_expr.specs.View.{term}
use Rattle.cov_expr.specs.Words.{HasVarsBelow}
use Rattle.replay_inputs.specs.Expressions.{by_id, first_unknown}
use Rattle.replay_inputs.specs.Inside.{variables}
use Rattle.replay_inputs.proofs.ExpressionLaws.{known_below}
use Rattle.replay_inputs.proofs.expressions.over_variables.Goals as goal

pub returns-clause-below : goal.returns-clause-below
returns-clause-below c =
    let vars = c.args.vars.now in
    let names = c.args.spelled.names in
    let few : length names < 4294967296 = search rules in
    let none : first_unknown (variables vars) names c.args.spelled.uses ≡ None = search rules in
    subst (λ e. HasVarsBelow e (length vars)) (sym c.resolve_variables.ensures)
    (subst (λ n. HasVarsBelow (by_id (variables vars) names (term c.args.spelled.expr)) n) (length-map vars (λ (v : VarDecl). v.name))
    (known_below (variables vars) names c.args.spelled.uses (term c.args.spelled.expr) (omega (arith, few))
    c.requires.below c.requires.in_order none))
