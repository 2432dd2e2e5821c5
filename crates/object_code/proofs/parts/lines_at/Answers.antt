use Rattle.std.proofs.lemmas.Result.{err_from_is_err_and}
use Rattle.object_code.specs.Inside.ObjectReading.{many_at, line_at}
use Rattle.object_code.proofs.Loops.{read_begins, reads_on, read_stops, read_ends}
use Rattle.object_code.proofs.parts.lines_at.Goals as goal

pub loop-init : goal.loop-init
loop-init c = rw c.new-lines.ensures (read_begins (line_at c.args.declared) c.args.count c.args.bytes.now)

pub loop-preserved : goal.loop-preserved
loop-preserved c =
    rw c.in_ok-push.ensures.ok
    (reads_on (line_at c.args.declared) c.loop.lines c.args.count c.loop.counter c.loop.rest.now (many_at (line_at c.args.declared) c.args.count c.args.bytes.now) c.in_ok-line.line c.in_ok-line.after.now c.loop-test.true c.in_ok-line.ensures c.loop.invariant)

pub returns-in_err-line : goal.returns-in_err-line
returns-in_err-line c =
    let p = err_from_is_err_and c.from_residual.result c.from_residual.ensures.1 in
    rw (p.1, p.2) (read_stops (line_at c.args.declared) c.loop.lines c.args.count c.loop.counter c.loop.rest.now (many_at (line_at c.args.declared) c.args.count c.args.bytes.now) c.in_err-line.field-0.0 c.loop-test.true c.in_err-line.ensures c.loop.invariant)

pub returns : goal.returns
returns c = read_ends (line_at c.args.declared) c.loop.lines c.args.count c.loop.counter c.loop.rest.now (many_at (line_at c.args.declared) c.args.count c.args.bytes.now) c.loop-test.false c.loop.invariant
