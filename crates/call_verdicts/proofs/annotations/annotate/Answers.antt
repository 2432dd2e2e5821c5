use Rattle.std.proofs.Common.{◌≡◌, Err, sym, subst, rules}
use Rattle.annotate.specs.AnnotatedText.{IsAsRead}
use Rattle.call_inputs.proofs.PlanLaws.{carried_not, carried_on}
use Rattle.call_inputs.specs.Plans.{CarriesOut}
use Rattle.call_inputs.specs.Steps.{program}
use Rattle.call_judge.specs.Check.{name_rejection}
use Rattle.call_verdicts.proofs.AnnotationsLaws.{carried_three, program_as_read}
use Rattle.call_verdicts.proofs.annotations.annotate.Goals as goal
use Rattle.call_verdicts.specs.Annotations.{Annotates, accepted_annotated, annotate_plan, annotation_rejection, declared_rejection}
use Rattle.cov_ast.specs.View as view

pub returns-in_err-parsed : goal.returns-in_err-parsed
returns-in_err-parsed g c =
    let shelved = g.S.Shelf.shelved in
    let before = shelved c.args.shelf.now in
    let after = shelved c.read_program.new.shelf in
    let why = c.in_err-parsed.field-0.0 in
    let same : c.from_residual.result ≡ Err why = search rules in
    subst (CarriesOut before after (annotate_plan c.args.name.now c.args.depth)) (sym same)
    (carried_not (program c.args.name.now) (accepted_annotated c.args.depth) (Annotates c.args.depth) before after why c.in_err-parsed.ensures.read)

pub annotated-requires-clause-read : goal.annotated-requires-clause-read
annotated-requires-clause-read g c =
    let shelved = g.S.Shelf.shelved in
    program_as_read (λ bytes p short (tree, is, spelled). subst IsAsRead (sym spelled) (c.texts_are_as_read.ensures bytes short tree is))
    (shelved c.args.shelf.now) (shelved c.read_program.new.shelf) c.args.name.now (view.parsed c.in_ok-parsed.parsed) c.in_ok-parsed.ensures.read

pub returns : goal.returns
returns g c =
    let shelved = g.S.Shelf.shelved in
    let after = shelved c.read_program.new.shelf in
    let depth = c.args.depth in
    let p = view.parsed c.in_ok-parsed.parsed in
    carried_on (program c.args.name.now) (accepted_annotated depth) (Annotates depth) (shelved c.args.shelf.now) after p c.annotated.result c.in_ok-parsed.ensures.read
    (carried_three depth p after c.annotated.result (name_rejection p) (declared_rejection p) (annotation_rejection depth p) c.annotated.ensures)
