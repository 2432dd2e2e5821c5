use Rattle.std.proofs.Common.{◌≡◌, ◌≤◌, ◌+◌}
use Rattle.cov_io.specs.Calls.{HasNoError}
use Rattle.cov_io.specs.Counters.{raised}
use Rattle.cov_io.proofs.output_sink.write_some.Given as goal

abbrev pub invariant-loop : goal.invariant-loop
invariant-loop g l =
    let output = g.O.Output in
    record {
      bytes : output.has l.output ≡ output.has l.fn.output;
      no_error : HasNoError (output.troubles l.fn.output) (output.troubles l.output);
      least : raised (output.troubles l.fn.output).interrupts l.counter ≤ (output.troubles l.output).interrupts;
      most : (output.troubles l.output).interrupts ≤ (output.troubles l.fn.output).interrupts + l.counter;
    }
