use Rattle.std.proofs.Common.{◌≡◌, Err, sym, subst, rules}
use Rattle.cov_ast.specs.View as view
use Rattle.call_code.specs.Objects.{WritesObject, object_plan}
use Rattle.call_inputs.proofs.PlanLaws.{carried_not, carried_on, carried_try}
use Rattle.call_inputs.specs.Plans.{CarriesOut}
use Rattle.call_inputs.specs.Readings.{gives, tries}
use Rattle.call_inputs.specs.Steps.{program}
use Rattle.call_judge.specs.Check.{rejection}
use Rattle.call_code.proofs.object.object.Goals as goal

pub returns-in_err-parsed : goal.returns-in_err-parsed
returns-in_err-parsed g c =
    let shelved = g.S.Shelf.shelved in
    let same : c.from_residual.result ≡ Err c.in_err-parsed.field-0.0 = search rules in
    subst (CarriesOut (shelved c.args.shelf.now) (shelved c.read_program.new.shelf) (object_plan c.args.name.now)) (sym same)
    (carried_not (program c.args.name.now) (λ p. tries (rejection p) (gives p)) WritesObject (shelved c.args.shelf.now)
    (shelved c.read_program.new.shelf) c.in_err-parsed.field-0.0 c.in_err-parsed.ensures.read)

pub returns : goal.returns
returns g c =
    let shelved = g.S.Shelf.shelved in
    let after = shelved c.read_program.new.shelf in
    let p = view.parsed c.in_ok-parsed.parsed in
    carried_on (program c.args.name.now) (λ p. tries (rejection p) (gives p)) WritesObject (shelved c.args.shelf.now)
    after p c.object_text.result c.in_ok-parsed.ensures.read (carried_try WritesObject p after c.object_text.result (rejection p) c.object_text.ensures)
