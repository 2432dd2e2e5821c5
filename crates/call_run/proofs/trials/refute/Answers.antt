use Rattle.std.proofs.Common.{◌≡◌, Err, sym, subst, rules}
use Rattle.call_inputs.specs.Plans.{CarriesOut}
use Rattle.call_inputs.specs.Readings.{Reading, gives, tries}
use Rattle.call_inputs.specs.Steps.{program}
use Rattle.call_inputs.proofs.PlanLaws.{carried_not, carried_on, carried_try}
use Rattle.cov_ast.specs.Syntax.{Parsed}
use Rattle.cov_ast.specs.View as view
use Rattle.call_run.specs.Refutes.{Refutes, refute_plan}
use Rattle.call_run.specs.Runs.{declared_rejection}
use Rattle.call_run.proofs.trials.refute.Goals as goal

-- what rejects the program, behind its file
abbrev pub tried : Parsed → Reading Parsed
tried p = tries (declared_rejection p) (gives p)

pub returns-in_err-parsed : goal.returns-in_err-parsed
returns-in_err-parsed g c =
    let shelved = g.S.Shelf.shelved in
    let before = shelved c.args.shelf.now in
    let after = shelved c.read_program.new.shelf in
    let same : c.from_residual.result ≡ Err c.in_err-parsed.field-0.0 = search rules in
    subst (CarriesOut before after (refute_plan c.args.name.now c.args.trials)) (sym same)
    (carried_not (program c.args.name.now) tried (Refutes c.args.trials) before after c.in_err-parsed.field-0.0 c.in_err-parsed.ensures.read)

pub returns : goal.returns
returns g c =
    let shelved = g.S.Shelf.shelved in
    let after = shelved c.read_program.new.shelf in
    let p = view.parsed c.in_ok-parsed.parsed in
    carried_on (program c.args.name.now) tried (Refutes c.args.trials) (shelved c.args.shelf.now) after p c.refute_text.result c.in_ok-parsed.ensures.read
    (carried_try (Refutes c.args.trials) p after c.refute_text.result (declared_rejection p) c.refute_text.ensures)
