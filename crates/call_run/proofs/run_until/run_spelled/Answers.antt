use Rattle.std.proofs.Common.{◌≡◌, Ok, Err, sym, subst, rules, arith}
use Rattle.std.specs.Prelude.{codes}
use Rattle.std.proofs.lemmas.List.{length-map}
use Rattle.cov_ast.specs.View as view
use Rattle.cov_expr.specs.Term.{Term}
use Rattle.cov_expr.specs.View.{term}
use Rattle.cov_expr.specs.declared.expr.Expr.{Expr}
use Rattle.replay_inputs.specs.Expressions.{IsExpression, IsExpressionFault}
use Rattle.replay_inputs.specs.InputViews.{run_input}
use Rattle.replay_inputs.specs.Inputs.{RunInput}
use Rattle.call_inputs.specs.Plans.{CarriesOut}
use Rattle.call_inputs.specs.Readings.{Reading, gives, tries}
use Rattle.replay_inputs.specs.Steps.{expression}
use Rattle.call_inputs.proofs.PlanLaws.{carried_not, carried_on, carried_try, text_read}
use Rattle.call_run.specs.Inside.{until_plan}
use Rattle.call_run.specs.Runs.{RunsUntil, UntilInput, declared_rejection}
use Rattle.call_run.proofs.run_until.run_spelled.Goals as goal

-- what rejects the program, behind the expression
abbrev tried : RunInput → Term → Reading UntilInput
tried i e = tries (declared_rejection i.program) (gives (record { run = i; expression = e }))

pub returns-in_err-expr : goal.returns-in_err-expr
returns-in_err-expr c shelf =
    let i = run_input c.args.input in
    let p = view.parsed c.args.input.parsed in
    let stop = c.in_err-expr.field-0.0 in
    let same : c.from_residual.result ≡ Err stop = search rules in
    subst (CarriesOut shelf shelf (until_plan i c.args.word.now)) (sym same)
    (carried_not (expression p c.args.word.now) (tried i) RunsUntil shelf shelf stop
    (text_read (IsExpression p) (IsExpressionFault p) {A = Expr} term (codes "expression") c.args.word.now shelf (Err stop) c.in_err-expr.ensures.read))

pub returns : goal.returns
returns c shelf =
    let i = run_input c.args.input in
    let p = view.parsed c.args.input.parsed in
    let e = term c.in_ok-expr.expr in
    let input : UntilInput = record { run = i; expression = e } in
    carried_on (expression p c.args.word.now) (tried i) RunsUntil shelf shelf e c.run_on.result
    (text_read (IsExpression p) (IsExpressionFault p) term (codes "expression") c.args.word.now shelf (Ok c.in_ok-expr.expr) c.in_ok-expr.ensures.read)
    (carried_try RunsUntil input shelf c.run_on.result (declared_rejection p) c.run_on.ensures)

pub read_expression-requires-clause-few : goal.read_expression-requires-clause-few
read_expression-requires-clause-few c = omega (arith, length-map c.args.input.parsed.vars view.var, c.requires.fits.ready.limits.variables)
