use Rattle.std.proofs.Common.{◌≡◌, ◌≤◌, take}
use Rattle.schedule_replay.specs.Inside.{HasRun}
use Rattle.schedule_replay.specs.Machines.{stayed_of}
use Rattle.schedule_replay.proofs.replays.run_on.Given as goal

abbrev pub invariant-loop-t : goal.invariant-loop-t
invariant-loop-t g l =
    let machine = g.M.Machine in
    record {
      run : HasRun machine.semantics (machine.seen l.fn.m).code (machine.seen l.fn.m) (machine.seen l.m) l.schedule l.t-index;
      stayed : l.stayed ≡ stayed_of machine.semantics (machine.seen l.fn.m).code (machine.seen l.fn.m).state (take l.t-index l.schedule);
      few : l.stayed ≤ l.t-index;
    }
