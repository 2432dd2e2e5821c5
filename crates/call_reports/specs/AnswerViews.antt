-- An answer of the code as the reply that it is, and what a step of the code gives: the words of public calls that hand an answer on.
use Rattle.std.specs.Prelude.{Result, Ok, Err}
use Rattle.call_reports.specs.Replies.{Reply, usage, read_fault, too_long, malformed, refused, refused_for, refused_open, accepted, spelled, ran, bad_starts, differ, refuted}
use Rattle.call_reports.specs.declared.answers.Answer.{Answer}
use Rattle.call_reports.specs.declared.answers.Answer.TheVariants as a
use Rattle.call_reports.specs.declared.answers.Stop.{Stop}
use Rattle.call_reports.specs.declared.answers.Stop.TheVariants as stops

-- an answer without where its words lie in memory
abbrev pub seen : Answer → Reply
seen a.Usage = usage
seen (a.ReadFault name) = read_fault name.now
seen (a.TooLong name) = too_long name.now
seen (a.Malformed name fault) = malformed name.now fault
seen (a.Refused refusal thread) = refused refusal thread
seen (a.RefusedFor level refusal thread) = refused_for level refusal thread
seen (a.RefusedOpen refusal thread lines) = refused_open refusal thread lines
seen (a.Accepted counts) = accepted counts.threads counts.statements counts.entailments
seen (a.Spelled text) = spelled text
seen (a.Ran report) = ran report
seen (a.BadStarts name) = bad_starts name
seen (a.Differ step what) = differ step what
seen (a.Refuted report) = refuted report

-- A step that stops gives what is said of it, unless memory ran out.
abbrev pub Stops : (Reply → Type 0) → Stop → Type 0
Stops does (stops.Answer answer) = does (seen answer)
Stops does stops.NoMemory = Unit {0}

-- A step gives what is said of it, unless memory ran out.
abbrev pub Gets : (Reply → Type 0) → Result Answer Stop → Type 0
Gets does (Ok answer) = does (seen answer)
Gets does (Err stop) = Stops does stop
