use Rattle.std.proofs.Common.{◌∙◌, sym}
use Rattle.std.proofs.lemmas.Bool.{not-true, not-false}
use Rattle.risc_machine.specs.Faults.{thread_names}
use Rattle.object_code.proofs.KnownNames.{passes, stops_at, thread_inside, thread_name}
use Rattle.object_code.proofs.repeated.add_threads.Goals as goal

pub returns-then-not-is_new : goal.returns-then-not-is_new
returns-then-not-is_new c = λ before known.
    stops_at c.loop-thread.known before (thread_names c.args.threads.now) c.loop-thread.thread-index c.thread-item.result.name
    (thread_inside c.args.threads.now c.loop-thread.thread-index c.loop-thread-test.true)
    (thread_name c.args.threads.now c.loop-thread.thread-index c.thread-item.result c.loop-thread-test.true c.thread-item.is)
    (c.loop-thread.invariant before known) (not-false _ (sym c.in_ok-is_new.ensures.added ∙ c.if-not-is_new.true))

pub loop-thread-preserved : goal.loop-thread-preserved
loop-thread-preserved c = λ before known.
    passes c.loop-thread.known before (thread_names c.args.threads.now) c.loop-thread.thread-index c.thread-item.result.name
    (thread_inside c.args.threads.now c.loop-thread.thread-index c.loop-thread-test.true)
    (thread_name c.args.threads.now c.loop-thread.thread-index c.thread-item.result c.loop-thread-test.true c.thread-item.is)
    (c.loop-thread.invariant before known) c.insert.new.self (not-true _ (sym c.in_ok-is_new.ensures.added ∙ c.if-not-is_new.false)) c.in_ok-is_new.ensures.updates
