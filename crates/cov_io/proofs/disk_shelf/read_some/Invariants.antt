use Rattle.std.proofs.Common.{◌≡◌, ◌≤◌, ◌+◌}
use Rattle.std.specs.Io.KnownBytes.{Keeps}
use Rattle.cov_io.specs.Calls.{HasNoError}
use Rattle.cov_io.specs.Counters.{raised}
use Rattle.cov_io.proofs.disk_shelf.read_some.Given as goal

abbrev pub invariant-loop : goal.invariant-loop
invariant-loop g l =
    let disk = g.D.Disk in
    record {
      bytes : Keeps (disk.left l.fn.file) (disk.left l.file);
      told : disk.told l.disk ≡ disk.told l.fn.disk;
      logged : disk.log l.disk ≡ disk.log l.fn.disk;
      no_error : HasNoError (disk.troubles l.fn.disk) (disk.troubles l.disk);
      least : raised (disk.troubles l.fn.disk).interrupts l.counter ≤ (disk.troubles l.disk).interrupts;
      most : (disk.troubles l.disk).interrupts ≤ (disk.troubles l.fn.disk).interrupts + l.counter;
    }
