-- The texts of reports.
use Rattle.std.specs.Prelude.{ℕ, List, [], ◌∷◌, ◌++◌, Option, Some, None, codes, decimal}
use Rattle.cov_ast.specs.declared.refusal.Rule.{Rule}
use Rattle.cov_ast.specs.declared.refusal.Rule.TheVariants as r
use Rattle.cov_ast.specs.declared.refusal.Detail.{Detail}
use Rattle.cov_ast.specs.declared.refusal.Detail.TheVariants as d
use Rattle.cov_ast.specs.declared.refusal.Refusal.{Refusal}
use Rattle.call_reports.specs.Replies.{Reply, usage, read_fault, too_long, malformed, refused, refused_for, refused_open, accepted, spelled, ran, bad_starts, differ, refuted}
use Rattle.call_reports.specs.declared.answers.Fault.{Fault}
use Rattle.call_reports.specs.declared.answers.Fault.TheVariants as f
use Rattle.call_reports.specs.declared.answers.FaultKind.{FaultKind}
use Rattle.call_reports.specs.declared.answers.FaultKind.TheVariants as k
use Rattle.call_reports.specs.declared.answers.Misfit.{Misfit}
use Rattle.call_reports.specs.declared.answers.Misfit.TheVariants as m

-- Faults of files ----------------------------------------------------------------------------------------------

-- a number, and what there are so many of
abbrev pub counted : ℕ → List ℕ → List ℕ
counted n what = decimal n ++ what

-- what a fault of a text is called
abbrev pub kind_text : FaultKind → List ℕ
kind_text k.Byte = codes "byte"
kind_text k.Number = codes "number"
kind_text k.Name = codes "name"
kind_text k.Token = codes "token"
kind_text k.Limit = codes "limit"
kind_text k.Depth = codes "depth"
kind_text k.Unknown = codes "unknown"

-- what of a text doesn't fit a program is called
abbrev pub misfit_text : Misfit → List ℕ
misfit_text m.Version = codes "version"
misfit_text m.Declares = codes "declares"
misfit_text m.Thread = codes "thread"
misfit_text m.Unknown = codes "unknown"
misfit_text m.Same = codes "same"
misfit_text m.Marker = codes "marker"

-- what a fault of a file is, and where
abbrev pub fault_text : Fault → List ℕ
fault_text (f.Text kind at) = kind_text kind ++ codes " at " ++ decimal at
fault_text f.Json = codes "json"
fault_text f.NotObject = codes "object"
fault_text (f.Missing name) = codes "missing " ++ name
fault_text f.UnknownKey = codes "unknown"
fault_text (f.NotWord name) = codes "word " ++ name
fault_text f.NotList = codes "list"
fault_text f.TooMany = codes "many"
fault_text (f.BadEntry i) = codes "entry " ++ decimal i
fault_text (f.Object at) = codes "object at " ++ decimal at
fault_text f.Code = codes "code"
fault_text (f.Misfit what at) = misfit_text what ++ codes " at " ++ decimal at

-- Refusals -----------------------------------------------------------------------------------------------------

abbrev pub rule_text : Rule → List ℕ
rule_text r.W1 = codes "W1"
rule_text r.W2 = codes "W2"
rule_text r.W3 = codes "W3"
rule_text r.W4 = codes "W4"
rule_text r.W5 = codes "W5"
rule_text r.W6 = codes "W6"
rule_text r.W7 = codes "W7"
rule_text r.W8 = codes "W8"
rule_text r.W9 = codes "W9"
rule_text r.V1 = codes "V1"
rule_text r.V2 = codes "V2"
rule_text r.V3 = codes "V3"
rule_text r.V4 = codes "V4"
rule_text r.V5 = codes "V5"
rule_text r.V6 = codes "V6"
rule_text r.V7 = codes "V7"
rule_text r.V8 = codes "V8"
rule_text r.V9 = codes "V9"
rule_text r.V10 = codes "V10"
rule_text r.V11 = codes "V11"
rule_text r.V12 = codes "V12"
rule_text r.V13 = codes "V13"
rule_text r.V14 = codes "V14"
rule_text r.V15 = codes "V15"
rule_text r.V16 = codes "V16"

-- the thread of a rule of statements
abbrev pub thread_text : Option (List ℕ) → List ℕ
thread_text None = []
thread_text (Some name) = codes " in " ++ name

-- the names that a rule shows, or the number of an entailment
abbrev pub detail_text : Detail → List ℕ
detail_text d.Nothing = []
detail_text (d.One x) = codes ": " ++ x
detail_text (d.Two x y) = codes ": " ++ x ++ codes " " ++ y
detail_text (d.Three x y z) = codes ": " ++ x ++ codes " " ++ y ++ codes " " ++ z
detail_text (d.Number n) = codes " entailment " ++ decimal n

-- the broken rule, its thread, its place, and what it shows
abbrev pub refusal_words : Refusal → (thread : Option (List ℕ)) → List ℕ
refusal_words refusal thread =
    codes "refused " ++ rule_text refusal.rule ++ thread_text thread ++ codes " at " ++ decimal refusal.place ++ detail_text refusal.detail

-- a line of that
abbrev pub refusal_text : Refusal → (thread : Option (List ℕ)) → List ℕ
refusal_text refusal thread = refusal_words refusal thread ++ codes "\n"

-- a line for the observer at a level, and then that
abbrev pub refusal_for_text : (level : List ℕ) → Refusal → (thread : Option (List ℕ)) → List ℕ
refusal_for_text level refusal thread = codes "observer " ++ level ++ codes "\n" ++ refusal_text refusal thread

-- a line of that, and then lines of what is left unproved
abbrev pub refusal_open_text : Refusal → (thread : Option (List ℕ)) → (lines : List ℕ) → List ℕ
refusal_open_text refusal thread lines = refusal_text refusal thread ++ lines

-- Counts -------------------------------------------------------------------------------------------------------

-- how much a program has that is accepted
abbrev pub accepted_words : (threads statements entailments : ℕ) → List ℕ
accepted_words threads statements entailments =
    codes "accepted: " ++ counted threads (codes " threads, ") ++ counted statements (codes " statements, ") ++ counted entailments (codes " entailments")

-- Reports ------------------------------------------------------------------------------------------------------

-- the report of a reply: lines that end with a line feed
abbrev pub report_of : Reply → List ℕ
report_of usage = codes "usage: covern COMMAND WORDS\n"
report_of (read_fault name) = codes "read fault: " ++ name ++ 10 ∷ []
report_of (too_long name) = codes "too long: " ++ name ++ 10 ∷ []
report_of (malformed name fault) = codes "malformed " ++ name ++ codes ": " ++ fault_text fault ++ codes "\n"
report_of (refused refusal thread) = refusal_text refusal thread
report_of (refused_for level refusal thread) = refusal_for_text level refusal thread
report_of (refused_open refusal thread lines) = refusal_open_text refusal thread lines
report_of (accepted threads statements entailments) = accepted_words threads statements entailments ++ codes "\n"
report_of (spelled text) = text
report_of (ran report) = report
report_of (bad_starts name) = codes "bad starts: " ++ name ++ codes "\n"
report_of (differ step what) = codes "differ at step " ++ decimal step ++ codes ": " ++ what ++ codes "\n"
report_of (refuted report) = report
