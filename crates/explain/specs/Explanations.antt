-- What is told of a file: the report of `check`, and of what it refuses where that is, what stands there and what is wrong.
use Rattle.std.specs.Prelude.{ℕ, List, [], ◌++◌, Option, Some, None, codes, decimal, drop}
use Rattle.explain.specs.FaultSentences.{fault_sentence}
use Rattle.explain.specs.RuleSentences.{sentence}
use Rattle.text_parts.specs.Excerpts.{excerpt}
use Rattle.text_parts.specs.Lines.{line, column}
use Rattle.call_reports.specs.Replies.{Reply, malformed, refused}
use Rattle.call_reports.specs.Reports.{report_of}
use Rattle.call_reports.specs.declared.answers.Fault.TheVariants as f

-- the place that a reply names
abbrev pub place_of : Reply → Option ℕ
place_of (malformed name (f.Text kind at)) = Some at
place_of (refused refusal thread) = Some refusal.place
place_of reply = None

-- what is wrong, in one sentence, by the bytes of the file
abbrev pub sentence_of : (bytes : List ℕ) → Reply → List ℕ
sentence_of bytes (malformed name (f.Text kind at)) = fault_sentence kind (drop at bytes)
sentence_of bytes (refused refusal thread) = sentence refusal.rule refusal.detail
sentence_of bytes reply = []

-- where a place is: the file, the line and the column
abbrev pub where_is : (name bytes : List ℕ) (place : ℕ) → List ℕ
where_is name bytes place = name ++ codes ":" ++ decimal (line bytes place) ++ codes ":" ++ decimal (column bytes place) ++ codes ": "

-- The report of `check`, where the reply names no place. Else where the place is and, behind that in the same line, the report of
-- `check`; the line of the place with a caret under it; and what is wrong.
abbrev pub explanation_at : (name bytes : List ℕ) → Reply → (place : Option ℕ) → List ℕ
explanation_at name bytes reply None = report_of reply
explanation_at name bytes reply (Some place) =
    where_is name bytes place ++ report_of reply ++ excerpt bytes place ++ codes "  " ++ sentence_of bytes reply ++ codes "\n"

-- what is told of the bytes of a file to which `check` replies so
abbrev pub explanation : (name bytes : List ℕ) → Reply → List ℕ
explanation name bytes reply = explanation_at name bytes reply (place_of reply)
