use Rattle.std.proofs.Common.{rules, ◌+◌, length}
use Rattle.cov_io.proofs.CallLaws.{fails_after}
use Rattle.cov_io.proofs.LogLaws.{fault_reads, reads_both}
use Rattle.cov_io.proofs.disk_shelf.DiskShelf.read_up_to.Goals as goal

pub returns-in-Err-clause-causes : goal.returns-in-Err-clause-causes
returns-in-Err-clause-causes g c = fails_after _ _ _ c.in-Err.field-0 c.loop-buffer.invariant.no_error c.in-Err.ensures.tries

pub returns-in_err-extend_from_slice-in-Ok-clause-read :
    goal.returns-in_err-extend_from_slice-in-Ok-clause-read
returns-in_err-extend_from_slice-in-Ok-clause-read g c =
    fault_reads _ _ _ c.from_residual.result c.from_residual.ensures.0 (length c.loop-buffer.bytes + c.in-Ok.count) (search rules)
    (reads_both _ _ _ _ _ c.loop-buffer.invariant.logged c.in-Ok.ensures.logged)
