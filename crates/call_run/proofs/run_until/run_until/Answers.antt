use Rattle.std.proofs.Common.{◌≡◌, Err, sym, subst, rules}
use Rattle.replay_inputs.specs.InputViews.{run_input}
use Rattle.call_inputs.specs.Plans.{CarriesOut}
use Rattle.replay_inputs.specs.Steps as step
use Rattle.call_inputs.proofs.PlanLaws.{carried_not, carried_on}
use Rattle.call_run.specs.Runs.{RunsUntil, run_until_plan, until_reading}
use Rattle.call_run.proofs.run_until.run_until.Goals as goal

pub returns-in_err-input : goal.returns-in_err-input
returns-in_err-input g c =
    let shelved = g.S.Shelf.shelved in
    let before = shelved c.args.shelf.now in
    let after = shelved c.read_run.new.shelf in
    let same : c.from_residual.result ≡ Err c.in_err-input.field-0.0 = search rules in
    subst (CarriesOut before after (run_until_plan c.args.program.now c.args.start.now c.args.schedule.now c.args.expression.now)) (sym same)
    (carried_not (step.run_input c.args.program.now c.args.start.now c.args.schedule.now) (until_reading c.args.expression.now) RunsUntil before after
    c.in_err-input.field-0.0 c.in_err-input.ensures.read)

pub returns : goal.returns
returns g c =
    let shelved = g.S.Shelf.shelved in
    let after = shelved c.read_run.new.shelf in
    carried_on (step.run_input c.args.program.now c.args.start.now c.args.schedule.now) (until_reading c.args.expression.now) RunsUntil
    (shelved c.args.shelf.now) after (run_input c.in_ok-input.input) c.run_spelled.result c.in_ok-input.ensures.read (c.run_spelled.ensures after)
