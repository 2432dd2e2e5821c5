use Rattle.std.proofs.Common.{◌+◌}
use Rattle.cov_ast.specs.Plain.{plain}
use Rattle.cov_ast.specs.View as view
use Rattle.schedule_replay.specs.Inside.{AgreedSoFar, HasRun, HasSameFront}
use Rattle.schedule_replay.specs.Machines.{shared_in}
use Rattle.schedule_replay.proofs.replays.pair_on.Given as goal

abbrev pub invariant-loop-i : goal.invariant-loop-i
invariant-loop-i g l =
    let machine = g.M.Machine in
    let code = (machine.seen l.fn.a).code in
    record {
      first : HasRun machine.semantics code (machine.seen l.fn.a) (machine.seen l.a) l.schedule l.i;
      second : HasRun machine.semantics code (machine.seen l.fn.b) (machine.seen l.b) l.schedule l.i;
      compared : HasSameFront l.compared (shared_in machine.semantics (machine.seen l.a)).outputs (shared_in machine.semantics (machine.seen l.b)).outputs;
      before : AgreedSoFar machine.semantics (plain (view.program l.p)) code (machine.seen l.fn.a).state (machine.seen l.fn.b).state l.schedule (l.i + 1);
    }
