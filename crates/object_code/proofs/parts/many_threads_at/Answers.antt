use Rattle.std.proofs.lemmas.Result.{err_from_is_err_and}
use Rattle.object_code.specs.Inside.ObjectReading.{many_at, thread_at}
use Rattle.object_code.proofs.Loops.{read_begins, reads_on, read_stops, read_ends}
use Rattle.object_code.proofs.parts.many_threads_at.Goals as goal

pub loop-init : goal.loop-init
loop-init c = rw c.new-threads.ensures (read_begins (thread_at c.args.declared) c.args.count c.args.bytes.now)

pub loop-preserved : goal.loop-preserved
loop-preserved c =
    rw c.in_ok-push.ensures.ok
    (reads_on (thread_at c.args.declared) c.loop.threads c.args.count c.loop.counter c.loop.rest.now (many_at (thread_at c.args.declared) c.args.count c.args.bytes.now) c.in_ok-thread.thread c.in_ok-thread.after.now c.loop-test.true c.in_ok-thread.ensures c.loop.invariant)

pub returns-in_err-thread : goal.returns-in_err-thread
returns-in_err-thread c =
    let p = err_from_is_err_and c.from_residual.result c.from_residual.ensures.1 in
    rw (p.1, p.2) (read_stops (thread_at c.args.declared) c.loop.threads c.args.count c.loop.counter c.loop.rest.now (many_at (thread_at c.args.declared) c.args.count c.args.bytes.now) c.in_err-thread.field-0.0 c.loop-test.true c.in_err-thread.ensures c.loop.invariant)

pub returns : goal.returns
returns c = read_ends (thread_at c.args.declared) c.loop.threads c.args.count c.loop.counter c.loop.rest.now (many_at (thread_at c.args.declared) c.args.count c.args.bytes.now) c.loop-test.false c.loop.invariant
