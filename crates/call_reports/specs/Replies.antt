-- What a call replies, with which status, and the number of each status.
use Rattle.std.specs.Prelude.{ℕ, List, Option}
use Rattle.cov_ast.specs.declared.refusal.Refusal.{Refusal}
use Rattle.call_reports.specs.declared.answers.Fault.{Fault}
use Rattle.call_reports.specs.declared.answers.Status.{Status}
use Rattle.call_reports.specs.declared.answers.Status.TheVariants as s

-- what a call answers, the want of memory and a failed write aside; a name is a word of the command line, but for that of
-- the thread in which a rule of statements is broken, that of a level, and those of declarations on which two starts or two runs differ;
-- behind a refusal there may stand lines of what is left unproved
pub data Reply : Type 0 where
  usage : Reply
  read_fault : (name : List ℕ) → Reply
  too_long : (name : List ℕ) → Reply
  malformed : (name : List ℕ) → Fault → Reply
  refused : Refusal → (thread : Option (List ℕ)) → Reply
  refused_for : (level : List ℕ) → Refusal → (thread : Option (List ℕ)) → Reply
  refused_open : Refusal → (thread : Option (List ℕ)) → (lines : List ℕ) → Reply
  accepted : (threads statements entailments : ℕ) → Reply
  spelled : (text : List ℕ) → Reply
  ran : (report : List ℕ) → Reply
  bad_starts : (name : List ℕ) → Reply
  differ : (step : ℕ) → (what : List ℕ) → Reply
  refuted : (report : List ℕ) → Reply

abbrev pub status_of : Reply → Status
status_of usage = s.Usage
status_of (read_fault name) = s.ReadFault
status_of (too_long name) = s.TooLong
status_of (malformed name fault) = s.Malformed
status_of (refused refusal thread) = s.Refused
status_of (refused_for level refusal thread) = s.Refused
status_of (refused_open refusal thread lines) = s.Refused
status_of (accepted threads statements entailments) = s.Done
status_of (spelled text) = s.Done
status_of (ran report) = s.Done
status_of (bad_starts name) = s.BadStarts
status_of (differ step what) = s.Differ
status_of (refuted report) = s.Differ

-- the number with which the program exits
abbrev pub exit_status : Status → ℕ
exit_status s.Done = 0
exit_status s.Refused = 1
exit_status s.Usage = 2
exit_status s.Malformed = 3
exit_status s.ReadFault = 4
exit_status s.WriteFault = 5
exit_status s.NoMemory = 6
exit_status s.TooLong = 7
exit_status s.Differ = 8
exit_status s.BadStarts = 9
