-- How a call ends: what is put to the sink, and the status.
use Rattle.std.specs.Prelude.{◌≡◌, Ok, Err}
use Rattle.cov_io.specs.Sinks.{Sunk, Writes}
use Rattle.cov_io.specs.declared.sink.Failed.{Failed}
use Rattle.call_reports.specs.Replies.{Reply, status_of}
use Rattle.call_reports.specs.Reports.{report_of}
use Rattle.call_reports.specs.declared.answers.Status.{Status}
use Rattle.call_reports.specs.declared.answers.Status.TheVariants as s

-- How a call ends whose command may reply so: the whole report of a reply is put, and the status is that of the reply; or
-- the write failed, and a proper prefix of the report is put; or memory ran out before anything was put.
abbrev pub Ends : (Reply → Type 0) → (before after : Sunk) → Status → Type 0
Ends does before after s.NoMemory = after ≡ before
Ends does before after s.WriteFault = (reply : Reply) × does reply × (e : Failed) × Writes before after (report_of reply) (Err e)
Ends does before after status = (reply : Reply) × does reply × (status ≡ status_of reply) × Writes before after (report_of reply) (Ok tt)
