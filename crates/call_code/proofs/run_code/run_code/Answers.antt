use Rattle.std.proofs.Common.{◌≡◌, Err, sym, subst, rules}
use Rattle.call_code.specs.CodeRuns.{RunsCode, accepted_run, run_code_plan}
use Rattle.call_inputs.proofs.PlanLaws.{carried_not, carried_on, carried_try}
use Rattle.replay_inputs.specs.InputViews as inputs
use Rattle.call_inputs.specs.Plans.{CarriesOut}
use Rattle.replay_inputs.specs.Steps.{run_input}
use Rattle.call_judge.specs.Check.{rejection}
use Rattle.call_code.proofs.run_code.run_code.Goals as goal

pub returns-in_err-input : goal.returns-in_err-input
returns-in_err-input g c =
    let shelved = g.S.Shelf.shelved in
    let same : c.from_residual.result ≡ Err c.in_err-input.field-0.0 = search rules in
    subst (CarriesOut (shelved c.args.shelf.now) (shelved c.read_run.new.shelf) (run_code_plan c.args.program.now c.args.start.now c.args.schedule.now)) (sym same)
    (carried_not (run_input c.args.program.now c.args.start.now c.args.schedule.now) accepted_run RunsCode (shelved c.args.shelf.now)
    (shelved c.read_run.new.shelf) c.in_err-input.field-0.0 c.in_err-input.ensures.read)

pub returns : goal.returns
returns g c =
    let shelved = g.S.Shelf.shelved in
    let after = shelved c.read_run.new.shelf in
    let i = inputs.run_input c.in_ok-input.input in
    carried_on (run_input c.args.program.now c.args.start.now c.args.schedule.now) accepted_run RunsCode (shelved c.args.shelf.now)
    after i c.run_taken.result c.in_ok-input.ensures.read (carried_try RunsCode i after c.run_taken.result (rejection i.program) c.run_taken.ensures)
