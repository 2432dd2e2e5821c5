use Rattle.std.proofs.Common.{◌≡◌, Err, sym, subst, rules}
use Rattle.replay_inputs.specs.InputViews.{pair_input}
use Rattle.replay_inputs.specs.Inputs.{PairInput}
use Rattle.call_inputs.specs.Plans.{CarriesOut}
use Rattle.call_inputs.specs.Readings.{Reading, gives, tries}
use Rattle.replay_inputs.specs.Steps as step
use Rattle.call_inputs.proofs.PlanLaws.{carried_not, carried_on, carried_tries}
use Rattle.call_judge.specs.Starts.{unfit_starts}
use Rattle.call_run.specs.Pairs.{Pairs, pair_plan}
use Rattle.call_run.specs.Runs.{declared_rejection}
use Rattle.call_run.proofs.pair.pair.Goals as goal

-- what rejects the program, and then what rejects its starts, behind all files
abbrev tried : PairInput → Reading PairInput
tried i = tries (declared_rejection i.program) (tries (unfit_starts i.program i.left i.right) (gives i))

pub returns-in_err-input : goal.returns-in_err-input
returns-in_err-input g c =
    let shelved = g.S.Shelf.shelved in
    let before = shelved c.args.shelf.now in
    let after = shelved c.read_pair.new.shelf in
    let same : c.from_residual.result ≡ Err c.in_err-input.field-0.0 = search rules in
    subst (CarriesOut before after (pair_plan c.args.program.now c.args.first.now c.args.second.now c.args.schedule.now)) (sym same)
    (carried_not (step.pair_input c.args.program.now c.args.first.now c.args.second.now c.args.schedule.now) tried Pairs before after c.in_err-input.field-0.0
    c.in_err-input.ensures.read)

pub returns : goal.returns
returns g c =
    let shelved = g.S.Shelf.shelved in
    let after = shelved c.read_pair.new.shelf in
    let i = pair_input c.in_ok-input.input in
    carried_on (step.pair_input c.args.program.now c.args.first.now c.args.second.now c.args.schedule.now) tried Pairs (shelved c.args.shelf.now) after i
    c.pair_on.result c.in_ok-input.ensures.read
    (carried_tries Pairs i after c.pair_on.result (declared_rejection i.program) (unfit_starts i.program i.left i.right) c.pair_on.ensures)
