use Rattle.std.proofs.Common.{◌≡◌, Err, sym, subst, rules}
use Rattle.call_code.specs.Codes.{accepted_pair}
use Rattle.call_code.specs.CodeRuns.{PairsCode, pair_code_plan}
use Rattle.call_inputs.proofs.PlanLaws.{carried_not, carried_on, carried_tries}
use Rattle.replay_inputs.specs.InputViews as inputs
use Rattle.call_inputs.specs.Plans.{CarriesOut}
use Rattle.replay_inputs.specs.Steps.{pair_input}
use Rattle.call_judge.specs.Check.{rejection}
use Rattle.call_judge.specs.Starts.{unfit_starts}
use Rattle.call_code.proofs.pair_code.pair_code.Goals as goal

pub returns-in_err-input : goal.returns-in_err-input
returns-in_err-input g c =
    let shelved = g.S.Shelf.shelved in
    let a = c.args in
    let same : c.from_residual.result ≡ Err c.in_err-input.field-0.0 = search rules in
    subst (CarriesOut (shelved a.shelf.now) (shelved c.read_pair.new.shelf) (pair_code_plan a.program.now a.first.now a.second.now a.schedule.now)) (sym same)
    (carried_not (pair_input a.program.now a.first.now a.second.now a.schedule.now) accepted_pair PairsCode (shelved a.shelf.now)
    (shelved c.read_pair.new.shelf) c.in_err-input.field-0.0 c.in_err-input.ensures.read)

pub returns : goal.returns
returns g c =
    let shelved = g.S.Shelf.shelved in
    let a = c.args in
    let after = shelved c.read_pair.new.shelf in
    let i = inputs.pair_input c.in_ok-input.input in
    carried_on (pair_input a.program.now a.first.now a.second.now a.schedule.now) accepted_pair PairsCode (shelved a.shelf.now)
    after i c.pair_taken.result c.in_ok-input.ensures.read
    (carried_tries PairsCode i after c.pair_taken.result (rejection i.program) (unfit_starts i.program i.left i.right) c.pair_taken.ensures)
