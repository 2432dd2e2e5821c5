use Rattle.std.proofs.Common.{length, sym, ◌∙◌, subst, arith, true≢false}
use Rattle.std.proofs.lemmas.Bool.{le-ltb}
use Rattle.cov_ast.specs.Plain.{plain}
use Rattle.cov_ast.specs.View as view
use Rattle.schedule_replay.specs.Inside.{HasSameFront}
use Rattle.schedule_replay.specs.Machines.{AreDeclaredBy, shared_in}
use Rattle.schedule_replay.proofs.PairLaws.{front_all, front_grown, agree_more, agree_now, first_apart}
use Rattle.schedule_replay.proofs.StepLaws.{has_thread, has_run_more}
use Rattle.schedule_replay.proofs.replays.pair_on.Goals.{then-i-gt0, else-i-gt0}
use Rattle.schedule_replay.proofs.replays.pair_on.Goals as goal

pub step_both-kept-requires-clause-equal : goal.step_both-kept-requires-clause-equal
step_both-kept-requires-clause-equal g c = c.loop-i.invariant.second.code ∙ sym c.loop-i.invariant.first.code

pub step_both-kept-requires-clause-thread : goal.step_both-kept-requires-clause-thread
step_both-kept-requires-clause-thread g c = has_thread _ _ _ _ _ _ c.loop-i.invariant.first _ (omega arith) c.requires.threads c.requires.declared.threads

pub difference_unless-requires-clause-equal : goal.difference_unless-requires-clause-equal
difference_unless-requires-clause-equal g c =
    c.step_both-kept.ensures.first.code ∙ c.loop-i.invariant.first.code ∙ sym (c.step_both-kept.ensures.second.code ∙ c.loop-i.invariant.second.code)

pub difference_unless-requires-clause-declared : goal.difference_unless-requires-clause-declared
difference_unless-requires-clause-declared g c =
    subst (λ q. AreDeclaredBy (g.M.Machine.semantics.declared q) c.args.p.now) (sym (c.step_both-kept.ensures.first.code ∙ c.loop-i.invariant.first.code)) c.requires.declared

pub difference_unless-requires-clause-compared : goal.difference_unless-requires-clause-compared
difference_unless-requires-clause-compared g c =
    front_grown c.loop-i.compared _ _ _ _ c.loop-i.invariant.compared c.step_both-kept.ensures.first.grows c.step_both-kept.ensures.second.grows

pub difference_unless-requires-clause-known : goal.difference_unless-requires-clause-known
difference_unless-requires-clause-known g c =
    let machine = g.M.Machine in
    elim c.if-i-gt0.branch [
      | then-i-gt0 w ↦ λ known.
          c.step_both-kept.ensures.kept (sym w.difference_unless-is ∙ known) (plain (view.program c.args.p.now))
          (agree_now machine.semantics (plain (view.program c.args.p.now)) (machine.seen c.args.a.now).code (machine.seen c.args.a.now).state (machine.seen c.args.b.now).state
          c.args.schedule.now c.loop-i.i (machine.seen c.loop-i.a).state (machine.seen c.loop-i.b).state
          (omega (w.if-i-gt0.true, arith)) c.loop-i.invariant.before c.loop-i.invariant.first.state c.loop-i.invariant.second.state)
      | else-i-gt0 w ↦ λ known. absurd (true≢false (sym known ∙ w.difference_unless-is ∙ le-ltb 0 c.loop-i.i (omega (w.if-i-gt0.false, arith))))
    ]

pub returns-in-Some-clause-found : goal.returns-in-Some-clause-found
returns-in-Some-clause-found g c =
    let machine = g.M.Machine in
    let first = has_run_more _ _ _ _ _ _ c.loop-i.invariant.first (machine.seen c.step_both-kept.new.a) (omega arith) c.step_both-kept.ensures.first in
    let second = has_run_more _ _ _ _ _ _ c.loop-i.invariant.second (machine.seen c.step_both-kept.new.b) (omega arith) c.step_both-kept.ensures.second in
    first_apart machine.semantics (plain (view.program c.args.p.now)) (machine.seen c.args.a.now).code (machine.seen c.args.a.now).state (machine.seen c.args.b.now).state
    c.args.schedule.now c.loop-i.i (machine.seen c.step_both-kept.new.a).state (machine.seen c.step_both-kept.new.b).state
    c.in-Some.differ (omega arith) c.loop-i.invariant.before first.state second.state c.in-Some.ensures

pub returns-in-Some-clause-first_code : goal.returns-in-Some-clause-first_code
returns-in-Some-clause-first_code g c = c.step_both-kept.ensures.first.code ∙ c.loop-i.invariant.first.code

pub returns-in-Some-clause-second_code : goal.returns-in-Some-clause-second_code
returns-in-Some-clause-second_code g c = c.step_both-kept.ensures.second.code ∙ c.loop-i.invariant.second.code

pub returns-in-Some-clause-first_room : goal.returns-in-Some-clause-first_room
returns-in-Some-clause-first_room g c = c.step_both-kept.ensures.first.room ∙ c.loop-i.invariant.first.room

pub returns-in-Some-clause-second_room : goal.returns-in-Some-clause-second_room
returns-in-Some-clause-second_room g c = c.step_both-kept.ensures.second.room ∙ c.loop-i.invariant.second.room

pub returns-in-Some-clause-first_state : goal.returns-in-Some-clause-first_state
returns-in-Some-clause-first_state g c =
    (has_run_more _ _ _ _ _ _ c.loop-i.invariant.first (g.M.Machine.seen c.step_both-kept.new.a) (omega arith) c.step_both-kept.ensures.first).state

pub returns-in-Some-clause-second_state : goal.returns-in-Some-clause-second_state
returns-in-Some-clause-second_state g c =
    (has_run_more _ _ _ _ _ _ c.loop-i.invariant.second (g.M.Machine.seen c.step_both-kept.new.b) (omega arith) c.step_both-kept.ensures.second).state

pub loop-i-preserved : goal.loop-i-preserved
loop-i-preserved g c =
    let machine = g.M.Machine in
    let first = has_run_more _ _ _ _ _ _ c.loop-i.invariant.first (machine.seen c.step_both-kept.new.a) (omega arith) c.step_both-kept.ensures.first in
    let second = has_run_more _ _ _ _ _ _ c.loop-i.invariant.second (machine.seen c.step_both-kept.new.b) (omega arith) c.step_both-kept.ensures.second in
    let agree = c.in_default.ensures in
    let left = shared_in machine.semantics (machine.seen c.step_both-kept.new.a) in
    let right = shared_in machine.semantics (machine.seen c.step_both-kept.new.b) in
    record {
      first = first;
      second = second;
      compared = subst (λ xs. HasSameFront (length xs) left.outputs right.outputs) (sym c.said-compared.ensures) (front_all left.outputs right.outputs agree.outputs);
      before = agree_more machine.semantics (plain (view.program c.args.p.now)) (machine.seen c.args.a.now).code (machine.seen c.args.a.now).state (machine.seen c.args.b.now).state
          c.args.schedule.now c.loop-i.i (machine.seen c.step_both-kept.new.a).state (machine.seen c.step_both-kept.new.b).state
          c.loop-i.invariant.before first.state second.state agree;
    }
