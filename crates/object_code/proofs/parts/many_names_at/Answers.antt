use Rattle.std.proofs.Common.{drop}
use Rattle.std.proofs.lemmas.Result.{err_from_is_err_and}
use Rattle.object_code.specs.Inside.ObjectReading.{many_at, name_at}
use Rattle.object_code.proofs.Loops.{read_begins, reads_on, read_stops, read_ends}
use Rattle.object_code.proofs.parts.many_names_at.Goals as goal

pub loop-init : goal.loop-init
loop-init c = rw c.new-names.ensures (read_begins name_at c.args.count c.args.bytes.now)

pub loop-preserved : goal.loop-preserved
loop-preserved c =
    rw (c.in_ok-push.ensures.ok, c.past-rest.ensures)
    (reads_on name_at c.loop.names c.args.count c.loop.counter c.loop.rest.now (many_at name_at c.args.count c.args.bytes.now) c.in_ok-name.name (drop c.in_ok-name.taken c.loop.rest.now) c.loop-test.true c.in_ok-name.ensures.name c.loop.invariant)

pub returns-in_err-name : goal.returns-in_err-name
returns-in_err-name c =
    let p = err_from_is_err_and c.from_residual.result c.from_residual.ensures.1 in
    rw (p.1, p.2) (read_stops name_at c.loop.names c.args.count c.loop.counter c.loop.rest.now (many_at name_at c.args.count c.args.bytes.now) c.in_err-name.field-0.0 c.loop-test.true c.in_err-name.ensures.name c.loop.invariant)

pub returns : goal.returns
returns c = read_ends name_at c.loop.names c.args.count c.loop.counter c.loop.rest.now (many_at name_at c.args.count c.args.bytes.now) c.loop-test.false c.loop.invariant
