use Rattle.std.proofs.Common.{arith}
use Rattle.source_machine.proofs.SourceLaws.{count, thread_fine, next_runs, next_says, next_grows, next_sound}
use Rattle.source_machine.proofs.source.Source.step.Goals as goal

pub index_mut-thread-requires : goal.index_mut-thread-requires
index_mut-thread-requires c =
    let k = count _ _ _ c.self.invariant in
    let h = rw (← c.self.view_is) at c.requires.thread in
    omega arith

pub turn-requires-clause-frames : goal.turn-requires-clause-frames
turn-requires-clause-frames c =
    let k = count _ _ _ c.self.invariant in
    let h = rw (← c.self.view_is) at c.requires.thread in
    (thread_fine _ _ _ c.self.invariant c.args.t c.index_mut-thread.result.now (omega arith) c.index_mut-thread.ensures.value).frames

pub invariant_of-self : goal.invariant_of-self
invariant_of-self c =
    let k = count _ _ _ c.self.invariant in
    let h = rw (← c.self.view_is) at c.requires.thread in
    next_sound _ _ _ c.self.invariant c.args.t c.index_mut-thread.result.now c.turn.new.self c.turn.new.shared c.turn.result (omega arith)
    c.index_mut-thread.ensures.value c.turn.ensures.turned c.turn.ensures.room

pub returns-clause-run : goal.returns-clause-run
returns-clause-run c =
    let k = count _ _ _ c.self.invariant in
    let h = rw (← c.self.view_is) at c.requires.thread in
    rw (← c.self.view_is)
    (next_runs _ c.self.inside.shared _ c.self.invariant c.args.t c.index_mut-thread.result.now c.turn.new.self c.turn.new.shared c.turn.result (omega arith)
    c.index_mut-thread.ensures.value c.turn.ensures.turned c.turn.ensures.room)

pub returns-clause-says : goal.returns-clause-says
returns-clause-says c =
    let k = count _ _ _ c.self.invariant in
    let h = rw (← c.self.view_is) at c.requires.thread in
    rw (← c.self.view_is)
    (next_says _ c.self.inside.shared _ c.self.invariant c.args.t c.index_mut-thread.result.now c.turn.new.self c.turn.new.shared c.turn.result (omega arith)
    c.index_mut-thread.ensures.value c.turn.ensures.turned c.turn.ensures.room)

pub returns-clause-grows : goal.returns-clause-grows
returns-clause-grows c =
    let k = count _ _ _ c.self.invariant in
    let h = rw (← c.self.view_is) at c.requires.thread in
    rw (← c.self.view_is)
    (next_grows _ c.self.inside.shared _ c.self.invariant c.args.t c.index_mut-thread.result.now c.turn.new.self c.turn.new.shared c.turn.result (omega arith)
    c.index_mut-thread.ensures.value c.turn.ensures.turned c.turn.ensures.room)
