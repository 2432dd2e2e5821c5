use Rattle.std.proofs.Common.{◌≡◌, Err, refl, sym, subst, rules}
use Rattle.cov_ast.specs.View as view
use Rattle.call_inputs.specs.Plans.{CarriesOut}
use Rattle.call_inputs.specs.Readings.{gives}
use Rattle.call_inputs.specs.Steps.{program}
use Rattle.call_inputs.proofs.PlanLaws.{carried_not, carried_on}
use Rattle.call_text.specs.Format.{Formats, fmt_plan}
use Rattle.call_text.proofs.fmt.format.Goals as goal

pub returns-in_err-parsed : goal.returns-in_err-parsed
returns-in_err-parsed g c =
    let shelved = g.S.Shelf.shelved in
    let same : c.from_residual.result ≡ Err c.in_err-parsed.field-0.0 = search rules in
    subst (CarriesOut (shelved c.args.shelf.now) (shelved c.read_program.new.shelf) (fmt_plan c.args.name.now)) (sym same)
    (carried_not (program c.args.name.now) (λ p. gives p) Formats (shelved c.args.shelf.now) (shelved c.read_program.new.shelf)
    c.in_err-parsed.field-0.0 c.in_err-parsed.ensures.read)

pub returns : goal.returns
returns g c =
    let shelved = g.S.Shelf.shelved in
    carried_on (program c.args.name.now) (λ p. gives p) Formats (shelved c.args.shelf.now) (shelved c.read_program.new.shelf)
    (view.parsed c.in_ok-parsed.parsed) c.spell.result c.in_ok-parsed.ensures.read (refl, c.spell.ensures)
