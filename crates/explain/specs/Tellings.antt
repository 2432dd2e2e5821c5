-- All that is told of the bytes of a file: the explanation of what `check` replies to them; then, where they are malformed by a token, which
-- brace is open at its place and what could stand there, where they are refused, what the refusal is about and what is warned of in them, and where they are accepted, what
-- is warned of in them and in the program that they spell. Where they are refused for a name that isn't declared, the nearest one that is.
use Rattle.std.specs.Prelude.{◌≡◌, ℕ, List, [], ◌++◌, Bool, true, codes, if◌then◌else◌, Option, Some, None}
use Rattle.code_lines.specs.CodeLines.{code_lines}
use Rattle.compiled_code.specs.Compiled.{compiled}
use Rattle.cov_ast.specs.Obligations.{all_hold}
use Rattle.cov_ast.specs.Syntax.{Parsed, Program}
use Rattle.cov_ast.specs.declared.refusal.Refusal.{Refusal}
use Rattle.explain.specs.ExpectedLines.{expected_line}
use Rattle.explain.specs.OpenBraces.{brace_line}
use Rattle.policy_class.specs.Resolved.{name_obligations, resolved}
use Rattle.explain.specs.HiddenText.{text_warnings}
use Rattle.explain.specs.Warnings.{warnings}
use Rattle.nearest_name.specs.NearestLines.{nearest_lines}
use Rattle.refusal_names.specs.RefusalNames.{refusal_names}
use Rattle.explain.specs.Explanations.{explanation}
use Rattle.explain.specs.OtherTellings.{asked_with_others}
use Rattle.explain.specs.UnassumedVariables.{unassumed_line}
use Rattle.explain.specs.UnreadVariables.{unread_line}
use Rattle.explain.specs.WarningSentences.{warning_lines}
use Rattle.explain.specs.declared.manner.Manner.{Manner}
use Rattle.explain.specs.declared.manner.Beside.{Beside}
use Rattle.explain.specs.declared.manner.Beside.TheVariants.{Remarks, Points, PointsOf, Code}
use Rattle.typing_trace.specs.PointLines.{point_lines}
use Rattle.call_judge.specs.Meaning.{meaning}
use Rattle.call_inputs.specs.Programs.{SpellsProgram}
use Rattle.call_reports.specs.Replies.{Reply, accepted, malformed, refused}
use Rattle.call_reports.specs.declared.answers.Fault.{Fault}
use Rattle.call_reports.specs.declared.answers.Fault.TheVariants as f
use Rattle.call_reports.specs.declared.answers.FaultKind.TheVariants as k

-- what is told of the thread of a refusal: what it doesn't assume though every other guarantees it, and what it stores to and no statement reads
abbrev pub thread_lines : Program → (thread : Option ℕ) → List ℕ
thread_lines p thread = unassumed_line p thread ++ unread_line p thread

-- what a refusal of a program is about: by name; what is told of its thread; and where a certificate isn't valid, what was asked, and what is told of others
-- of the thread that aren't, unless the first alone is to be told; the bytes are those of its text
abbrev pub refusal_lines : (first : Bool) (name : List ℕ) → Program → (bytes : List ℕ) → Refusal → List ℕ
refusal_lines first name p bytes refusal =
    refusal_names p bytes refusal.rule refusal.thread refusal.place refusal.detail
    ++ (thread_lines p refusal.thread ++ asked_with_others first name bytes p refusal)

-- what a refusal of a text is about whose names aren't in order: of one that isn't declared, the nearest declared one
abbrev pub unnamed_asked : Parsed → Refusal → List ℕ
unnamed_asked p refusal = nearest_lines p refusal.rule refusal.detail refusal.place

-- what a refusal of a text is about, in the program that it stands for, if its names are in order
abbrev pub asked_lines : (first : Bool) (name : List ℕ) → Parsed → (bytes : List ℕ) → Refusal → List ℕ
asked_lines first name p bytes refusal =
    if all_hold (name_obligations p) then refusal_lines first name (resolved p) bytes refusal else unnamed_asked p refusal

-- which brace is open at a place, and what could stand there
unfoldable pub stand_lines_at : (bytes : List ℕ) (at : ℕ) → List ℕ
stand_lines_at bytes at = brace_line bytes at ++ expected_line bytes at

-- what is told of the place of a token with which no program goes on; nothing where another fault is the first
abbrev pub stand_lines : (bytes : List ℕ) → Fault → List ℕ
stand_lines bytes (f.Text k.Token at) = stand_lines_at bytes at
stand_lines bytes fault = []

-- What is told of bytes to which `check` replies so, beside the explanation: of malformed ones, what could stand at the place of a token;
-- of refused ones, what the refusal is about in the text that they spell, and what is warned of in the bytes themselves; of accepted ones,
-- what is warned of in that program and in the bytes; of others, nothing.
abbrev pub Adds : (first : Bool) (name bytes : List ℕ) → Reply → (text : List ℕ) → Type 0
Adds first name bytes (malformed file fault) text = text ≡ stand_lines bytes fault
Adds first name bytes (refused refusal thread) text =
    (p : Parsed) × SpellsProgram bytes p × (text ≡ asked_lines first name p bytes refusal ++ warning_lines name bytes (text_warnings bytes))
Adds first name bytes (accepted threads statements entailments) text =
    (p : Parsed) × SpellsProgram bytes p × (text ≡ warning_lines name bytes (warnings (meaning p) bytes))
Adds first name bytes reply text = text ≡ []

-- What is told of points of a program, where the names of its text are in order: in front of all statements, or of those that begin in a line.
abbrev pub program_points : Parsed → (bytes : List ℕ) → (number : Option ℕ) → List ℕ
program_points p bytes number = if all_hold (name_obligations p) then point_lines (resolved p) bytes number else []

-- What is told of bytes to which `check` replies so, beside the explanation, where points are asked for: of malformed ones what could stand at the place
-- of a token, and of others the points of the program that they spell.
abbrev pub AddsPoints : (bytes : List ℕ) → (number : Option ℕ) → Reply → (text : List ℕ) → Type 0
AddsPoints bytes number (malformed file fault) text = text ≡ stand_lines bytes fault
AddsPoints bytes number (refused refusal thread) text = (p : Parsed) × SpellsProgram bytes p × (text ≡ program_points p bytes number)
AddsPoints bytes number (accepted threads statements entailments) text = (p : Parsed) × SpellsProgram bytes p × (text ≡ program_points p bytes number)
AddsPoints bytes number reply text = text ≡ []

-- the code of a program whose text these bytes are
abbrev pub compiled_lines : Program → (bytes : List ℕ) → List ℕ
compiled_lines p bytes = code_lines p (compiled p) bytes

-- What is told of bytes to which `check` replies so, beside the explanation, where the code is asked for: of accepted ones the code of the program that they spell,
-- and of others what is told without, of a refusal the first alone.
abbrev pub AddsCode : (name bytes : List ℕ) → Reply → (text : List ℕ) → Type 0
AddsCode name bytes (accepted threads statements entailments) text = (p : Parsed) × SpellsProgram bytes p × (text ≡ compiled_lines (resolved p) bytes)
AddsCode name bytes reply text = Adds true name bytes reply text

-- what is told beside the explanation, by what is asked for
abbrev pub AddsBeside : Beside → (first : Bool) (name bytes : List ℕ) → Reply → (text : List ℕ) → Type 0
AddsBeside Remarks first name bytes reply text = Adds first name bytes reply text
AddsBeside Points first name bytes reply text = AddsPoints bytes None reply text
AddsBeside (PointsOf n) first name bytes reply text = AddsPoints bytes (Some n) reply text
AddsBeside Code first name bytes reply text = AddsCode name bytes reply text

-- what stands in front of the report of a file that is accepted, where files are named: its name
abbrev pub accepted_front : (name : List ℕ) → Reply → List ℕ
accepted_front name (accepted threads statements entailments) = name ++ codes ": "
accepted_front name reply = []

abbrev pub name_front : (named : Bool) (name : List ℕ) → Reply → List ℕ
name_front named name reply = if named then accepted_front name reply else []

-- What is told of bytes to which `check` replies so: the explanation of the reply, behind the name of the file where it is to be named, and then all that is
-- told beside it.
abbrev pub IsTold : Manner → (name bytes : List ℕ) → Reply → (text : List ℕ) → Type 0
IsTold h name bytes reply text =
    (more : List ℕ) × AddsBeside h.beside h.first name bytes reply more × (text ≡ name_front h.named name reply ++ (explanation name bytes reply ++ more))
