use Rattle.std.proofs.Common.{◌≤◌, ◌≡◌, ◌+◌, ◌-◌, length}
use Rattle.std.specs.Io.KnownBytes.{Consumes}
use Rattle.cov_io.specs.Calls.{HasNoError}
use Rattle.cov_io.specs.Counters.{raised}
use Rattle.cov_io.specs.Disks.{with_bytes}
use Rattle.cov_io.proofs.disk_shelf.DiskShelf.read_up_to.Given as goal

abbrev pub invariant-loop-buffer : goal.invariant-loop-buffer
invariant-loop-buffer g l =
    let disk = g.D.Disk in
    record {
      so_far : Consumes (disk.left l.fn.file) (disk.left l.file) l.bytes;
      told : disk.told l.self-inside.disk ≡ l.fn.self.shelved.told;
      no_call : l.self-inside.calls ≡ l.fn.self.shelved.calls;
      no_fault : l.self-inside.faults ≡ l.fn.self.shelved.faults;
      no_error : HasNoError l.fn.self.troubles (disk.troubles l.self-inside.disk);
      counted : l.self-inside.taken ≡ raised l.fn.self.shelved.taken (length l.bytes);
      logged : disk.log l.self-inside.disk ≡ with_bytes l.fn.self.log (length l.bytes);
      within : length l.bytes ≤ l.limit + 1;
    }

abbrev pub decreases-loop-buffer : goal.decreases-loop-buffer
decreases-loop-buffer g l = (l.limit + 1) - length l.bytes
