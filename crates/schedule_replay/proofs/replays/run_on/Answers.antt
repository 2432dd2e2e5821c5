use Rattle.std.proofs.Common.{◌+◌, refl, ap, ◌∙◌, arith}
use Rattle.schedule_replay.proofs.StepLaws.{has_thread, has_run_more, has_stayed_more}
use Rattle.schedule_replay.proofs.replays.run_on.Goals as goal

pub advance-stayed-requires-clause-thread : goal.advance-stayed-requires-clause-thread
advance-stayed-requires-clause-thread g c = has_thread _ _ _ _ _ _ c.loop-t.invariant.run _ (omega arith) c.requires.threads refl

pub loop-t-preserved : goal.loop-t-preserved
loop-t-preserved g c =
    let l = c.loop-t in
    let s = c.advance-stayed in
    let machine = g.M.Machine in
    record {
      run = has_run_more _ _ _ _ _ _ l.invariant.run (machine.seen s.new.m) (omega arith) s.ensures.stepped;
      stayed = ap (λ n. l.stayed + n) s.ensures.stayed ∙ has_stayed_more _ _ _ _ _ _ l.invariant.run l.stayed (omega arith) l.invariant.stayed;
      few = (let few = l.invariant.few in let small = s.ensures.small in omega arith);
    }
