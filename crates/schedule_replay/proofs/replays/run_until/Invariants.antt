use Rattle.std.proofs.Common.{◌≡◌, ℕ, ◌<◌, ◌≤◌, false, take}
use Rattle.cov_expr.specs.Entailment.{Holds}
use Rattle.flow_model.specs.Source.{stayed_from}
use Rattle.source_machine.specs.SourceMachine.{run_of}
use Rattle.watch.specs.Watches.{expr_of}
use Rattle.schedule_replay.specs.Inside.{HasRun}
use Rattle.schedule_replay.specs.Machines.{seen_source, source_semantics}
use Rattle.schedule_replay.specs.Replays.{after_steps}
use Rattle.schedule_replay.proofs.replays.run_until.Given as goal

abbrev pub invariant-loop-i : goal.invariant-loop-i
invariant-loop-i g l = record {
  run : HasRun source_semantics l.fn.s.program (seen_source l.fn.s) (seen_source l.s) l.schedule l.i;
  stayed : l.stayed ≡ stayed_from (run_of l.fn.s) (take l.i l.schedule);
  few : l.stayed ≤ l.i;
  missed : l.stored ≡ false → ¬ Holds (expr_of l.w) (run_of l.s).memory;
  earlier : (k : ℕ) → k < l.i → ¬ Holds (expr_of l.w) (after_steps (run_of l.fn.s) l.schedule k).memory;
}
