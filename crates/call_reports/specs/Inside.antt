-- Words of private contracts: the replies whose report is made as one line, and what the text of a fault begins with. To believe what
-- `covern` promises, nothing here need be read.
use Rattle.std.specs.Prelude.{◌≡◌, ℕ, List, codes}
use Rattle.call_reports.specs.Replies.{Reply, spelled, ran, refuted}
use Rattle.call_reports.specs.Reports.{kind_text, misfit_text, report_of}
use Rattle.call_reports.specs.declared.answers.Fault.{Fault}
use Rattle.call_reports.specs.declared.answers.Fault.TheVariants as f

-- The text is the report of a reply that the code makes as one line.
abbrev pub IsLine : Reply → List ℕ → Type 0
IsLine (spelled text) line = Unit {0}
IsLine (ran report) line = Unit {0}
IsLine (refuted report) line = Unit {0}
IsLine reply line = line ≡ report_of reply

-- what the text of a fault begins with, up to a name or a number
abbrev pub fault_word : Fault → List ℕ
fault_word (f.Text kind at) = kind_text kind
fault_word f.Json = codes "json"
fault_word f.NotObject = codes "object"
fault_word (f.Missing name) = codes "missing "
fault_word f.UnknownKey = codes "unknown"
fault_word (f.NotWord name) = codes "word "
fault_word f.NotList = codes "list"
fault_word f.TooMany = codes "many"
fault_word (f.BadEntry i) = codes "entry "
fault_word (f.Object at) = codes "object at "
fault_word f.Code = codes "code"
fault_word (f.Misfit what at) = misfit_text what
