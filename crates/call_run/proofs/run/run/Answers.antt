use Rattle.std.proofs.Common.{◌≡◌, Err, sym, subst, rules}
use Rattle.replay_inputs.specs.InputViews.{run_input}
use Rattle.replay_inputs.specs.Inputs.{RunInput}
use Rattle.call_inputs.specs.Plans.{CarriesOut}
use Rattle.call_inputs.specs.Readings.{Reading, gives, tries}
use Rattle.replay_inputs.specs.Steps as step
use Rattle.call_inputs.proofs.PlanLaws.{carried_not, carried_on, carried_try}
use Rattle.call_run.specs.Runs.{Runs, declared_rejection, run_plan}
use Rattle.call_run.proofs.run.run.Goals as goal

-- what rejects the program, behind all files
abbrev tried : RunInput → Reading RunInput
tried i = tries (declared_rejection i.program) (gives i)

pub returns-in_err-input : goal.returns-in_err-input
returns-in_err-input g c =
    let shelved = g.S.Shelf.shelved in
    let before = shelved c.args.shelf.now in
    let after = shelved c.read_run.new.shelf in
    let same : c.from_residual.result ≡ Err c.in_err-input.field-0.0 = search rules in
    subst (CarriesOut before after (run_plan c.args.program.now c.args.start.now c.args.schedule.now)) (sym same)
    (carried_not (step.run_input c.args.program.now c.args.start.now c.args.schedule.now) tried Runs before after c.in_err-input.field-0.0 c.in_err-input.ensures.read)

pub returns : goal.returns
returns g c =
    let shelved = g.S.Shelf.shelved in
    let after = shelved c.read_run.new.shelf in
    let i = run_input c.in_ok-input.input in
    carried_on (step.run_input c.args.program.now c.args.start.now c.args.schedule.now) tried Runs (shelved c.args.shelf.now) after i c.run_on.result
    c.in_ok-input.ensures.read (carried_try Runs i after c.run_on.result (declared_rejection i.program) c.run_on.ensures)
