use Rattle.std.proofs.Common.{◌≡◌, Err, refl, sym, subst, rules}
use Rattle.call_code.specs.Codes.{RepliesListing}
use Rattle.call_code.specs.Objects.{code, unobject_plan}
use Rattle.call_inputs.proofs.PlanLaws.{carried_not, carried_on}
use Rattle.call_inputs.specs.Plans.{CarriesOut}
use Rattle.call_inputs.specs.Readings.{gives}
use Rattle.call_code.proofs.unobject.unobject.Goals as goal

pub returns-in_err-code : goal.returns-in_err-code
returns-in_err-code g c =
    let shelved = g.S.Shelf.shelved in
    let same : c.from_residual.result ≡ Err c.in_err-code.field-0.0 = search rules in
    subst (CarriesOut (shelved c.args.shelf.now) (shelved c.read_code.new.shelf) (unobject_plan c.args.name.now)) (sym same)
    (carried_not (code c.args.name.now) (λ d. gives d) RepliesListing (shelved c.args.shelf.now) (shelved c.read_code.new.shelf)
    c.in_err-code.field-0.0 c.in_err-code.ensures.read)

pub returns : goal.returns
returns g c =
    let shelved = g.S.Shelf.shelved in
    carried_on (code c.args.name.now) (λ d. gives d) RepliesListing (shelved c.args.shelf.now) (shelved c.read_code.new.shelf)
    c.in_ok-code.code c.listed.result c.in_ok-code.ensures.read (refl, c.listed.ensures)
