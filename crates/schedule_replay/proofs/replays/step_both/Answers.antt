use Rattle.std.proofs.Common.{sym, ◌∙◌, true≢false}
use Rattle.schedule_replay.proofs.StepLaws.{kept_quiet, kept_still}
use Rattle.schedule_replay.proofs.replays.step_both.Goals.{then-has_moved, else-has_moved}
use Rattle.schedule_replay.proofs.replays.step_both.Goals as goal

pub returns-then-quiet-clause-kept : goal.returns-then-quiet-clause-kept
returns-then-quiet-clause-kept g c alike =
    let machine = g.M.Machine in
    kept_quiet machine.semantics (machine.seen c.args.a.now) (machine.seen c.args.b.now) (machine.seen c.step-first.new.self) (machine.seen c.step-second.new.self) c.args.t
    c.requires.equal c.step-first.ensures.stepped c.step-second.ensures.stepped (c.is_quiet-quiet.ensures c.if-quiet.true) (c.is_alike.ensures.0 alike)

pub returns-else-has_moved-2-clause-kept : goal.returns-else-has_moved-2-clause-kept
returns-else-has_moved-2-clause-kept g c =
    let machine = g.M.Machine in
    elim c.if-has_moved.branch [
      | then-has_moved w ↦ absurd (true≢false (sym w.if-has_moved.true ∙ sym w.value-is ∙ c.if-has_moved-2.false))
      | else-has_moved w ↦ λ done.
          kept_still machine.semantics (machine.seen c.args.a.now).state (machine.seen c.args.b.now).state (machine.seen c.step-first.new.self).state (machine.seen c.step-second.new.self).state
          (c.step-first.ensures.still (sym c.has_moved.ensures ∙ w.if-has_moved.false))
          (c.step-second.ensures.still (sym w.has_moved-else-has_moved.ensures ∙ sym w.value-is ∙ c.if-has_moved-2.false))
    ]
