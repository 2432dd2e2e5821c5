-- What a call tells of its files, and how it ends.
use Rattle.std.specs.Prelude.{◌≡◌, ◌⊎◌, ℕ, ◌==◌, ◌+◌, ◌*◌, ◌-◌, nat_le, nat_lt, List, [], ◌∷◌, ◌++◌, length, get_or, take, drop, Bool, true, false, ◌&&◌, codes, if◌then◌else◌, Option, Some, None, Ok, Err}
use Rattle.std.specs.Str.{bytes_eq}
use Rattle.call_inputs.specs.Plans.{RepliesAt}
use Rattle.call_inputs.specs.Programs.{IsShownFault, SpellsProgram}
use Rattle.call_inputs.specs.Readings.{End, Reads, lacks, stops, took}
use Rattle.call_inputs.specs.Steps.{bytes}
use Rattle.call_judge.specs.Check.{accepted_program, verdict}
use Rattle.call_judge.specs.Texts.{ChecksBytes}
use Rattle.call_reports.specs.Replies.{Reply, status_of}
use Rattle.call_reports.specs.Reports.{report_of}
use Rattle.call_reports.specs.declared.answers.Fault.{Fault}
use Rattle.call_reports.specs.declared.answers.Status.{Status}
use Rattle.call_reports.specs.declared.answers.Status.TheVariants as s
use Rattle.call_verdicts.specs.Levels.{AcceptsForAll, levels_reading}
use Rattle.cov_ast.specs.Syntax.{Parsed}
use Rattle.cov_expr.specs.declared.limits.TheConstants.{MOST_BYTES}
use Rattle.cov_io.specs.Shelves.{Shelved}
use Rattle.cov_io.specs.Sinks.{Sunk, Writes}
use Rattle.cov_io.specs.declared.sink.Failed as sink
use Rattle.explain.specs.LevelTellings.{TellsOver, malformed_lines}
use Rattle.explain.specs.SuggestedTexts.{suggested_lines, suggested_status}
use Rattle.explain.specs.Tellings.{IsTold}
use Rattle.explain.specs.declared.manner.Manner.{Manner}
use Rattle.explain.specs.declared.manner.Beside.{Beside}
use Rattle.explain.specs.declared.manner.Beside.TheVariants.{Remarks, Points, PointsOf, Code}

-- What is told of a file to which `check` replies so, by how it was read: its bytes were fetched, and the reply to them is explained, with
-- warnings where they are accepted; or they weren't, and the report of `check` is all.
abbrev pub Tells : Manner → (name : List ℕ) → End (List ℕ) → Reply → (text : List ℕ) → Type 0
Tells h name (took these) reply text = ChecksBytes name these reply × IsTold h name these reply text
Tells h name (stops other) reply text = (reply ≡ other) × (text ≡ report_of reply)
Tells h name lacks reply text = ⊥

-- `check` of a file replies so, by these calls of a shelf.
abbrev pub IsChecked : (before after : Shelved) (name : List ℕ) → Reply → Type 0
IsChecked before after name reply =
    Reads (λ shelf end. (shelf ≡ after) × RepliesAt (λ p other. other ≡ verdict p) end reply) before (accepted_program name)

-- `levels` of a program and levels replies so, by these calls of a shelf.
abbrev pub IsLevelled : (before after : Shelved) (name over : List ℕ) → Reply → Type 0
IsLevelled before after name over reply = Reads (λ shelf end. (shelf ≡ after) × RepliesAt AcceptsForAll end reply) before (levels_reading name over)

-- a status, or where it says that all is done, the one that comes after it
abbrev pub first_status : Status → Status → Status
first_status s.Done later = later
first_status status later = status

-- What all calls of a shelf come to: a text that is told, and the first of the statuses that isn't Done, if there is one; or memory ran out.
pub data Outcome : Type 0 where
  told : (text : List ℕ) → Status → Outcome
  out_of_memory : Outcome

-- what is told where no file is named
abbrev pub usage_line : List ℕ
usage_line = codes "usage: covern explain FILE..\n"

-- What follows a file that was read: what goes on with what is told of it; or memory ran out.
abbrev pub FollowsFile : Manner → (name : List ℕ) (goes_on : Reply → List ℕ → Type 0) (Lacks : Type 0) → End (List ℕ) → Type 0
FollowsFile h name goes_on Lacks end = ((reply : Reply) × (here : List ℕ) × Tells h name end reply here × goes_on reply here) ⊎ Lacks

-- whether the words ask for levels: a first word, and then a program and levels for it; three files can't be named by such words
abbrev pub asks_for_levels : List (List ℕ) → Bool
asks_for_levels words = length words == 3 && bytes_eq (get_or words 0 []) (codes "--levels")

-- whether the words ask that of each file the first refusal alone is told: a first word, and then files
abbrev pub asks_for_first : List (List ℕ) → Bool
asks_for_first words = nat_lt 1 (length words) && bytes_eq (get_or words 0 []) (codes "--first")

-- whether the words ask for the certificates that a search finds for a program: a first word, and the program
abbrev pub asks_for_suggestions : List (List ℕ) → Bool
asks_for_suggestions words = length words == 2 && bytes_eq (get_or words 0 []) (codes "--suggest")

-- whether the words ask for the code of a program: a first word, and the program
abbrev pub asks_for_code : List (List ℕ) → Bool
asks_for_code words = length words == 2 && bytes_eq (get_or words 0 []) (codes "--code")

-- the number that digits spell behind others, which spell this one; none where one is no digit, or where the digits but for the last spell more than a text has bytes
abbrev pub number_from : ℕ → List ℕ → Option ℕ
number_from n [] = Some n
number_from n (b ∷ bs) = if nat_le 48 b && nat_le b 57 && nat_le n MOST_BYTES then number_from (n * 10 + (b - 48)) bs else None

-- the number of a line that a word spells, if it spells one
abbrev pub line_number : List ℕ → Option ℕ
line_number [] = None
line_number (b ∷ bs) = number_from 0 (b ∷ bs)

abbrev pub in_line : Option ℕ → Beside
in_line None = Remarks
in_line (Some n) = PointsOf n

-- which points words ask for, of which the first is `--points`: behind it stands a file, or a file and the number of a line
abbrev pub points_by : List (List ℕ) → Beside
points_by words = if length words == 2 then Points else (if length words == 3 then in_line (line_number (get_or words 2 [])) else Remarks)

-- whether words ask for code, of which the first isn't `--points`
abbrev pub code_by : List (List ℕ) → Beside
code_by words = if asks_for_code words then Code else Remarks

-- what the words ask for beside the explanation
abbrev pub beside_of : List (List ℕ) → Beside
beside_of words = if nat_lt 1 (length words) && bytes_eq (get_or words 0 []) (codes "--points") then points_by words else code_by words

-- the files that the words name, by what they ask for
abbrev pub files_by : Beside → List (List ℕ) → List (List ℕ)
files_by Remarks words = if asks_for_first words then drop 1 words else words
files_by Points words = take 1 (drop 1 words)
files_by (PointsOf n) words = take 1 (drop 1 words)
files_by Code words = take 1 (drop 1 words)

-- the files that the words name
abbrev pub files_of : List (List ℕ) → List (List ℕ)
files_of words = files_by (beside_of words) words

-- how they are told of: where there are several, an accepted one is named
abbrev pub manner_of : List (List ℕ) → Manner
manner_of words = record { named = nat_lt 1 (length (files_of words)); first = asks_for_first words; beside = beside_of words }

-- What is said of the shelf as it is left, and of what the calls come to, holds.
module _ (left : Shelved → Outcome → Type 0) where
  -- The shelf is called once for each of these files, in order, and not otherwise, and what is told of a file is added to a text that was
  -- told before; where memory runs out, no more is called.
  abbrev pub TellsAll : Manner → Shelved → List (List ℕ) → (text : List ℕ) → Status → Type 0
  TellsAll h shelf [] text status = left shelf (told text status)
  TellsAll h shelf (name ∷ names) text status =
      Reads (λ after end. FollowsFile h name (λ reply here. TellsAll h after names (text ++ here) (first_status status (status_of reply)))
      (left after out_of_memory) end) shelf (bytes name MOST_BYTES)

  -- What follows the file of levels for bytes that spell a text: what is told of them is added to a text that was told before, and the
  -- status is that of `levels`; or memory ran out.
  abbrev pub FollowsOver : (name these : List ℕ) → Parsed → (over text : List ℕ) → Shelved → End (List ℕ) → Type 0
  FollowsOver name these p over text shelf end =
      ((reply : Reply) × (here : List ℕ) × TellsOver name these p over end reply here × left shelf (told (text ++ here) (status_of reply)))
      ⊎ left shelf out_of_memory

  -- What follows the file of a program: its bytes were fetched and spell a text, and the shelf is called for the levels, and not otherwise; or they are
  -- malformed, and that is told as without levels; or they weren't fetched, and the report of `levels` is all; or memory ran out.
  abbrev pub FollowsProgram : (name over text : List ℕ) → Shelved → End (List ℕ) → Type 0
  FollowsProgram name over text shelf (took these) =
      ((p : Parsed) × SpellsProgram these p × Reads (λ after end. FollowsOver name these p over text after end) shelf (bytes over MOST_BYTES))
      ⊎ ((fault : Fault) × IsShownFault these fault × left shelf (told (text ++ malformed_lines name these fault) s.Malformed))
      ⊎ left shelf out_of_memory
  FollowsProgram name over text shelf (stops reply) = left shelf (told (text ++ report_of reply) (status_of reply)) ⊎ left shelf out_of_memory
  FollowsProgram name over text shelf lacks = left shelf out_of_memory

  -- The shelf is called for a program and then for levels, as `levels` calls it, and what is told of them is added to a text.
  abbrev pub TellsLevels : (name over text : List ℕ) → Shelved → Type 0
  TellsLevels name over text shelf = Reads (λ after end. FollowsProgram name over text after end) shelf (bytes name MOST_BYTES)

  -- What follows the file of a program for which certificates are searched: its bytes were fetched and spell a text, and what is told of that is added to a text
  -- that was told before; or they are malformed, and that is told; or they weren't fetched, and the report of `check` is all; or memory ran out.
  abbrev pub FollowsSuggested : (name text : List ℕ) → Shelved → End (List ℕ) → Type 0
  FollowsSuggested name text shelf (took these) =
      ((p : Parsed) × SpellsProgram these p × left shelf (told (text ++ suggested_lines name these p) (suggested_status p)))
      ⊎ ((fault : Fault) × IsShownFault these fault × left shelf (told (text ++ malformed_lines name these fault) s.Malformed))
      ⊎ left shelf out_of_memory
  FollowsSuggested name text shelf (stops reply) = left shelf (told (text ++ report_of reply) (status_of reply)) ⊎ left shelf out_of_memory
  FollowsSuggested name text shelf lacks = left shelf out_of_memory

  -- the shelf is called for a program, and what is told of it is added to a text
  abbrev pub TellsSuggested : (name text : List ℕ) → Shelved → Type 0
  TellsSuggested name text shelf = Reads (λ after end. FollowsSuggested name text after end) shelf (bytes name MOST_BYTES)

  -- what is told for words that ask for no levels, by whether they ask for suggestions
  abbrev pub AnswersBesides : Shelved → List (List ℕ) → (suggests : Bool) → Type 0
  AnswersBesides shelf words true = TellsSuggested (get_or words 1 []) [] shelf
  AnswersBesides shelf words false = TellsAll (manner_of words) shelf (files_of words) [] s.Done

  -- what is told for words of which one at least is there, by whether they ask for levels
  abbrev pub AnswersTo : Shelved → List (List ℕ) → (levels : Bool) → Type 0
  AnswersTo shelf words true = TellsLevels (get_or words 1 []) (get_or words 2 []) [] shelf
  AnswersTo shelf words false = AnswersBesides shelf words (asks_for_suggestions words)

  -- The words of a command line ask for levels or for suggestions, or else they have the names of files.
  abbrev pub Answers : Shelved → List (List ℕ) → Type 0
  Answers shelf [] = left shelf (told usage_line s.Usage) ⊎ left shelf out_of_memory
  Answers shelf (word ∷ words) = AnswersTo shelf (word ∷ words) (asks_for_levels (word ∷ words))

-- How a call ends that tells so: the whole text is put; or the write failed, and a proper prefix of the text is put; or memory ran
-- out before anything was put.
abbrev pub EndsAt : (old new : Sunk) (result : Status) → Outcome → Type 0
EndsAt old new result (told text status) =
    ((result ≡ status) × Writes old new text (Ok tt)) ⊎ ((result ≡ s.WriteFault) × (e : sink.Failed) × Writes old new text (Err e))
EndsAt old new result out_of_memory = (result ≡ s.NoMemory) × (new ≡ old)

-- A call explains files or levels, or suggests: it calls the shelf for them, and ends with what is told of them.
abbrev pub Explains : (before after : Shelved) (old new : Sunk) → List (List ℕ) → (result : Status) → Type 0
Explains before after old new names result = Answers (λ shelf outcome. (shelf ≡ after) × EndsAt old new result outcome) before names
