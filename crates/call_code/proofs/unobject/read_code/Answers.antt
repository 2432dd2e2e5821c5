use Rattle.std.proofs.Common.{◌≡◌, Err, sym, subst, rules}
use Rattle.cov_expr.specs.declared.limits.TheConstants.{MOST_OBJECT_BYTES}
use Rattle.risc_machine.specs.declared.parts.Parts.{Parts}
use Rattle.call_code.specs.Objects.{IsObjectCode, IsObjectFault, code}
use Rattle.call_inputs.proofs.PlanLaws.{file_read, file_stopped}
use Rattle.call_inputs.specs.Readings.{HasRead, ended, took}
use Rattle.call_inputs.specs.Steps.{bytes}
use Rattle.call_code.proofs.unobject.read_code.Goals as goal

pub returns-in_err-bytes-clause-read : goal.returns-in_err-bytes-clause-read
returns-in_err-bytes-clause-read g c =
    let shelved = g.S.Shelf.shelved in
    let same : c.from_residual.result ≡ Err c.in_err-bytes.field-0.0 = search rules in
    subst (λ r. HasRead (shelved c.args.shelf.now) (shelved c.fetch.new.shelf) (code c.args.name.now) (ended (λ (d : Parts). d) r)) (sym same)
    (file_stopped IsObjectCode IsObjectFault c.args.name.now MOST_OBJECT_BYTES (shelved c.args.shelf.now) (shelved c.fetch.new.shelf) c.in_err-bytes.field-0.0
    c.in_err-bytes.ensures.read)

pub returns-clause-read : goal.returns-clause-read
returns-clause-read g c =
    let shelved = g.S.Shelf.shelved in
    file_read IsObjectCode IsObjectFault (λ (d : Parts). d) c.args.name.now MOST_OBJECT_BYTES (shelved c.args.shelf.now) (shelved c.fetch.new.shelf)
    c.as_slice.result.now c.code_of.result
    (subst (λ these. HasRead (shelved c.args.shelf.now) (shelved c.fetch.new.shelf) (bytes c.args.name.now MOST_OBJECT_BYTES) (took these)) (sym c.as_slice.ensures)
    c.in_ok-bytes.ensures.read) c.code_of.ensures.read
