use Rattle.std.proofs.Common.{subst}
use Rattle.call_inputs.specs.Readings.{HasRead, stopped, stops, took}
use Rattle.call_inputs.specs.Steps.{bytes}
use Rattle.cov_expr.specs.declared.limits.TheConstants.{MOST_BYTES}
use Rattle.call_reports.specs.AnswerViews.{seen}
use Rattle.explain.specs.Inside.Told.{AddsTold}
use Rattle.explain.proofs.CallLaws.{file_not, file_told, unread_told}
use Rattle.explain.proofs.files.tell.Goals as goal

pub returns-in-Ok : goal.returns-in-Ok
returns-in-Ok g c =
    let shelved = g.S.Shelf.shelved in
    file_told c.args.manner c.args.name.now c.args.text.now c.tell_bytes.new.text c.tell_bytes.result (shelved c.args.shelf.now) (shelved c.fetch.new.shelf) (took c.in-Ok.bytes)
    c.in-Ok.ensures.read (subst (λ b. AddsTold c.args.manner c.args.name.now (took b) c.args.text.now c.tell_bytes.new.text c.tell_bytes.result) c.as_slice.ensures c.tell_bytes.ensures)

pub returns-in-Err-Answer : goal.returns-in-Err-Answer
returns-in-Err-Answer g c =
    let shelved = g.S.Shelf.shelved in
    file_told c.args.manner c.args.name.now c.args.text.now c.tell_unread.new.text c.tell_unread.result (shelved c.args.shelf.now) (shelved c.fetch.new.shelf)
    (stops (seen c.in-Err-Answer.answer))
    (subst (λ why. HasRead (shelved c.args.shelf.now) (shelved c.fetch.new.shelf) (bytes c.args.name.now MOST_BYTES) (stopped why)) c.in-Err-Answer.field-0-is
    c.in-Err-Answer.ensures.read)
    (unread_told c.args.manner c.args.name.now (seen c.in-Err-Answer.answer) c.args.text.now c.tell_unread.new.text c.tell_unread.result (rw c.in-Err-Answer.answer-is at c.tell_unread.ensures))

pub returns-in-Err-NoMemory : goal.returns-in-Err-NoMemory
returns-in-Err-NoMemory g c =
    let shelved = g.S.Shelf.shelved in
    file_not c.args.name.now (shelved c.args.shelf.now) (shelved c.fetch.new.shelf)
    (subst (λ why. HasRead (shelved c.args.shelf.now) (shelved c.fetch.new.shelf) (bytes c.args.name.now MOST_BYTES) (stopped why)) c.in-Err-NoMemory.field-0-is
    c.in-Err-NoMemory.ensures.read)
