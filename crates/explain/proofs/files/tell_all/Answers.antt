use Rattle.std.proofs.Common.{◌≡◌, Err, map, rules, string_bytes, subst, sym}
use Rattle.call_reports.specs.declared.answers.Status.TheVariants as s
use Rattle.explain.specs.FileCalls.{TellsAll}
use Rattle.explain.specs.Inside.Told.{IsLeft, outcome_of}
use Rattle.explain.proofs.CallLaws.{tells_step, tells_stopped}
use Rattle.explain.proofs.files.tell_all.Goals as goal

pub loop-name-preserved : goal.loop-name-preserved
loop-name-preserved g c =
    let shelved = g.S.Shelf.shelved in
    rw c.first_status-status.ensures
    (tells_step c.args.manner string_bytes c.args.names.now c.loop-name.name-index (shelved c.args.shelf.now) (shelved c.loop-name.shelf) (shelved c.tell.new.shelf)
    c.name-item.result c.as_str.result.now c.args.text.now c.loop-name.text c.tell.new.text c.loop-name.status c.loop-name-test.true c.name-item.is
    c.as_str.ensures.value c.loop-name.invariant c.in_ok-next.next c.in_ok-next.ensures)

pub returns-in_err-next : goal.returns-in_err-next
returns-in_err-next g c =
    let shelved = g.S.Shelf.shelved in
    let same : c.from_residual.result ≡ Err c.in_err-next.field-0.0 = search rules in
    subst (λ r. TellsAll (IsLeft (shelved c.tell.new.shelf) (outcome_of c.tell.new.text r)) c.args.manner (shelved c.args.shelf.now) (map string_bytes c.args.names.now) c.args.text.now s.Done)
    (sym same)
    (tells_stopped c.args.manner string_bytes c.args.names.now c.loop-name.name-index (shelved c.args.shelf.now) (shelved c.loop-name.shelf) (shelved c.tell.new.shelf)
    c.name-item.result c.as_str.result.now c.args.text.now c.loop-name.text c.tell.new.text c.loop-name.status c.loop-name-test.true c.name-item.is
    c.as_str.ensures.value c.loop-name.invariant c.in_err-next.field-0.0 c.in_err-next.ensures)
