use Rattle.std.proofs.Common.{◌≡◌, Err, sym, subst, rules}
use Rattle.cov_ast.specs.View as view
use Rattle.cov_expr.specs.declared.limits.TheConstants.{MOST_BYTES}
use Rattle.call_inputs.specs.Programs.{IsShownFault, SpellsProgram}
use Rattle.call_inputs.specs.Readings.{HasRead, ended, took}
use Rattle.call_inputs.specs.Steps.{bytes, program}
use Rattle.call_inputs.proofs.PlanLaws.{file_read, file_stopped}
use Rattle.call_inputs.proofs.files.read_program.Goals as goal

pub returns-in_err-bytes-clause-read : goal.returns-in_err-bytes-clause-read
returns-in_err-bytes-clause-read g c =
    let shelved = g.S.Shelf.shelved in
    let same : c.from_residual.result ≡ Err c.in_err-bytes.field-0.0 = search rules in
    subst (λ r. HasRead (shelved c.args.shelf.now) (shelved c.fetch.new.shelf) (program c.args.name.now) (ended view.parsed r)) (sym same)
    (file_stopped SpellsProgram IsShownFault c.args.name.now MOST_BYTES (shelved c.args.shelf.now) (shelved c.fetch.new.shelf) c.in_err-bytes.field-0.0
    c.in_err-bytes.ensures.read)

pub returns-clause-read : goal.returns-clause-read
returns-clause-read g c =
    let shelved = g.S.Shelf.shelved in
    file_read SpellsProgram IsShownFault view.parsed c.args.name.now MOST_BYTES (shelved c.args.shelf.now) (shelved c.fetch.new.shelf) c.as_slice.result.now
    c.read_text.result
    (subst (λ these. HasRead (shelved c.args.shelf.now) (shelved c.fetch.new.shelf) (bytes c.args.name.now MOST_BYTES) (took these)) (sym c.as_slice.ensures)
    c.in_ok-bytes.ensures.read) c.read_text.ensures.read
