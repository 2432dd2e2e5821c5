use Rattle.std.proofs.Common.{◌∙◌, sym}
use Rattle.refusal_names.proofs.ThreadLaws.{next_is_named}
use Rattle.refusal_names.proofs.guarantees.thread_named.Goals as goal

pub returns-then-is_named : goal.returns-then-is_named
returns-then-is_named c =
    next_is_named c.args.wanted c.args.threads.now c.loop-t.t-index c.t-item.result c.loop-t-test.true c.t-item.is (sym c.is_named.ensures ∙ c.if-is_named.true) c.loop-t.invariant
