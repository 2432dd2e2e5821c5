use Rattle.std.proofs.Common.{◌+◌, refl, sym, ap, ◌∙◌, subst, arith, below_more, true≢false}
use Rattle.cov_expr.specs.Entailment.{Holds}
use Rattle.source_machine.specs.SourceMachine.{run_of}
use Rattle.watch.specs.Watches.{expr_of}
use Rattle.schedule_replay.specs.Inside.{stores}
use Rattle.schedule_replay.specs.Machines.{seen_source, source_semantics}
use Rattle.schedule_replay.proofs.PairLaws.{no_hit, stops_here, stops_behind}
use Rattle.schedule_replay.proofs.QuietLaws.{step_memory}
use Rattle.schedule_replay.proofs.StepLaws.{has_thread, has_run_more, has_stayed_more}
use Rattle.schedule_replay.proofs.replays.run_until.Goals as goal

pub advance-stayed-requires-clause-thread : goal.advance-stayed-requires-clause-thread
advance-stayed-requires-clause-thread g c = has_thread source_semantics _ _ _ _ _ c.loop-i.invariant.run _ (omega arith) c.requires.threads refl

pub change-requires : goal.change-requires
change-requires g c = has_thread source_semantics _ _ _ _ _ c.loop-i.invariant.run _ (omega arith) c.requires.threads refl

pub loop-i-preserved : goal.loop-i-preserved
loop-i-preserved g c =
    let l = c.loop-i in
    let s = c.advance-stayed in
    record {
      run = has_run_more source_semantics _ _ _ _ _ l.invariant.run (seen_source s.new.m) (omega arith) s.ensures.stepped;
      stayed = ap (λ n. l.stayed + n) s.ensures.stayed ∙ has_stayed_more source_semantics _ _ _ _ _ l.invariant.run l.stayed (omega arith) l.invariant.stayed;
      few = (let few = l.invariant.few in let small = s.ensures.small in omega arith);
      missed = λ quiet holds. true≢false (sym (c.hits.ensures.1
          (subst (Holds (expr_of c.args.w.now))
          (ap (λ r. r.memory) s.ensures.stepped.state ∙ step_memory (run_of l.s) _ (sym (ap stores c.change.ensures) ∙ sym c.stores-stored.ensures ∙ quiet)) holds))
          ∙ c.if-hits.false);
      earlier = below_more _ _ l.invariant.earlier
          (no_hit (expr_of c.args.w.now) (run_of c.args.s.now) c.args.schedule.now l.i c.hits.result (run_of l.s) (run_of l.s).memory
          l.invariant.run.state refl c.hits.ensures c.if-hits.false);
    }

pub returns-then-hits-clause-stops : goal.returns-then-hits-clause-stops
returns-then-hits-clause-stops g c =
    let l = c.loop-i in
    stops_here (expr_of c.args.w.now) (run_of c.args.s.now) c.args.schedule.now l.i l.stayed c.hits.result (run_of l.s) (run_of l.s).memory
    (omega arith) l.invariant.stayed l.invariant.earlier l.invariant.run.state refl c.hits.ensures c.if-hits.true

pub returns-clause-stops : goal.returns-clause-stops
returns-clause-stops g c =
    let l = c.loop-i in
    stops_behind (expr_of c.args.w.now) (run_of c.args.s.now) c.args.schedule.now l.i l.stayed c.hits-hit.result (run_of l.s) (run_of l.s).memory
    (omega arith) l.invariant.stayed l.invariant.earlier l.invariant.run.state refl c.hits-hit.ensures
