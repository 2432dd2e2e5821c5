-- What is told of a program that is shown to an observer at each of some levels, by what `levels` finds of it: of the first observer for whom it is
-- refused all that is told of a refused program, of the program as that observer is shown it.
use Rattle.std.specs.Prelude.{◌≡◌, ◌⊎◌, ℕ, List, [], ◌++◌, drop, length, get_or, flat_map, Bool, false, codes, decimal, Option, Some, None}
use Rattle.std.specs.List.{take_while}
use Rattle.call_inputs.specs.Readings.{End, lacks, stops, took}
use Rattle.call_inputs.specs.Rejections.{UnlessRejected}
use Rattle.call_judge.specs.Check.{name_in, name_rejection, totals}
use Rattle.call_reports.specs.Replies.{Reply, malformed, refused}
use Rattle.call_reports.specs.Reports.{report_of}
use Rattle.call_reports.specs.declared.answers.Fault.{Fault}
use Rattle.call_reports.specs.declared.answers.Fault.TheVariants as f
use Rattle.call_reports.specs.declared.answers.Misfit.{Misfit}
use Rattle.call_reports.specs.declared.answers.Misfit.TheVariants as m
use Rattle.call_verdicts.specs.Levels.{AcceptsForAll, IsShownLevelFault, LevelsInput, level_rejection, levels_words}
use Rattle.cov_ast.specs.Obligations.{first_false}
use Rattle.cov_ast.specs.Plain.{plain}
use Rattle.cov_ast.specs.Syntax.{Parsed, Program, Var}
use Rattle.cov_ast.specs.declared.refusal.Refusal.{Refusal}
use Rattle.cov_expr.specs.Bytes.{is_word}
use Rattle.explain.specs.Explanations.{explanation, where_is}
use Rattle.explain.specs.HiddenText.{text_warnings}
use Rattle.explain.specs.Tellings.{refusal_lines, stand_lines, unnamed_asked}
use Rattle.explain.specs.WarningSentences.{warning_lines}
use Rattle.explain.specs.Warnings.{warnings}
use Rattle.level_text.specs.Lattice.{Levels}
use Rattle.level_text.specs.LevelReads.{GivesLevels}
use Rattle.levels.specs.Accepted.{first_refused}
use Rattle.levels.specs.Order.{seen_by}
use Rattle.levels.specs.Projection.{mark_of, projected}
use Rattle.nearest_name.specs.NearestLines.{nearest_variable_line}
use Rattle.policy_class.specs.Resolved.{name_obligations, resolved}
use Rattle.text_parts.specs.Excerpts.{excerpt}

-- Observers ----------------------------------------------------------------------------------------------------

-- which observer it is
abbrev pub observer_line : (level : List ℕ) → List ℕ
observer_line level = codes "observer " ++ level ++ codes "\n"

-- what stands for a variable in the annotations that an observer is shown, if it is a marker
abbrev pub stands_text : (name : List ℕ) (k : ℕ) → List ℕ
stands_text name k = codes "  " ++ name ++ codes " stands for " ++ decimal k ++ codes " in annotations here\n"

abbrev pub mark_text : (name : List ℕ) → Option ℕ → List ℕ
mark_text name None = []
mark_text name (Some k) = stands_text name k

abbrev pub mark_line : (seen : List Bool) (levels : List (List ℕ)) → Var → List ℕ
mark_line seen levels v = mark_text v.name (mark_of seen levels v)

-- the same of each variable, for an observer who sees these of the levels with these names
abbrev pub mark_lines : (seen : List Bool) (levels : List (List ℕ)) → List Var → List ℕ
mark_lines seen levels vars = flat_map (mark_line seen levels) vars

-- what is told of a refusal of a program; the bytes are those of its text
unfoldable pub refused_lines : (name bytes : List ℕ) → Program → Refusal → List ℕ
refused_lines name bytes p refusal =
    explanation name bytes (refused refusal (name_in p.threads refusal.thread))
    ++ (refusal_lines false name p bytes refusal ++ warning_lines name bytes (text_warnings bytes))

-- what is told of a program for an observer for whom it is refused
abbrev pub observer_lines : (name bytes : List ℕ) → Levels → Program → (observer : ℕ) → Refusal → List ℕ
observer_lines name bytes l p observer refusal =
    observer_line (get_or l.names observer [])
    ++ (mark_lines (seen_by l observer) l.names p.vars ++ refused_lines name bytes (projected l observer p) refusal)

-- what is told of a program that is accepted for every observer: the line of `levels`, and what is warned of in it
abbrev pub accepted_lines : (name bytes : List ℕ) → Levels → Program → List ℕ
accepted_lines name bytes l p =
    levels_words (length l.names) (totals (projected l 0 p)) ++ warning_lines name bytes (warnings (plain p) bytes)

-- what is told of a program, by the first observer for whom it is refused and what is refused there
abbrev pub program_lines : (name bytes : List ℕ) → Levels → Program → Option (ℕ × Refusal) → List ℕ
program_lines name bytes l p (Some (observer, refusal)) = observer_lines name bytes l p observer refusal
program_lines name bytes l p None = accepted_lines name bytes l p

-- Texts --------------------------------------------------------------------------------------------------------

-- what is told of bytes that spell no program, with their fault
abbrev pub malformed_lines : (name bytes : List ℕ) → Fault → List ℕ
malformed_lines name bytes fault = explanation name bytes (malformed name fault) ++ stand_lines bytes fault

-- what is told of a text of which this name isn't in order
abbrev pub unnamed_lines : (name bytes : List ℕ) → Parsed → Refusal → List ℕ
unnamed_lines name bytes p refusal =
    explanation name bytes (refused refusal None) ++ (unnamed_asked p refusal ++ warning_lines name bytes (text_warnings bytes))

-- what is told of a text and of levels, by the first name that isn't in order
abbrev pub text_lines : (name bytes : List ℕ) → LevelsInput → Option Refusal → List ℕ
text_lines name bytes i (Some refusal) = unnamed_lines name bytes i.program refusal
text_lines name bytes i None = program_lines name bytes i.levels (resolved i.program) (first_refused i.levels (resolved i.program))

-- what is told of bytes that spell a text for which levels were read
abbrev pub level_lines : (name bytes : List ℕ) → LevelsInput → List ℕ
level_lines name bytes i = text_lines name bytes i (first_false (name_obligations i.program))

-- Texts of levels ----------------------------------------------------------------------------------------------

-- the place of a fault of a text
abbrev pub fault_place : Fault → Option ℕ
fault_place (f.Text kind at) = Some at
fault_place (f.Misfit what at) = Some at
fault_place fault = None

-- The report of a text with a fault; behind where the fault is and in front of the line of that, with a caret under it, if it has a place.
abbrev pub fault_lines_at : (name bytes : List ℕ) → Fault → (place : Option ℕ) → List ℕ
fault_lines_at name bytes fault None = report_of (malformed name fault)
fault_lines_at name bytes fault (Some place) = where_is name bytes place ++ report_of (malformed name fault) ++ excerpt bytes place

-- what a fault beyond the grammar and the limits is, in one sentence
abbrev pub misfit_sentence : Misfit → List ℕ
misfit_sentence m.Unknown = codes "  no level that is declared in front of it, or no variable of the program, has the name that is used as such here\n"
misfit_sentence m.Same = codes "  a level is declared, or a variable is listed, a second time here\n"
misfit_sentence m.Marker = codes "  a level has the name of a variable that is more than a marker\n"
misfit_sentence what = []

-- of a name that isn't known, the nearest one of a variable
abbrev pub nearest_part : Parsed → (rest : List ℕ) → Misfit → List ℕ
nearest_part p rest m.Unknown = nearest_variable_line p (take_while is_word rest)
nearest_part p rest what = []

abbrev pub misfit_lines : Parsed → (bytes : List ℕ) → Fault → List ℕ
misfit_lines p bytes (f.Misfit what at) = misfit_sentence what ++ nearest_part p (drop at bytes) what
misfit_lines p bytes fault = []

-- what is told of bytes that give no levels for a text, with their fault
abbrev pub fault_lines : (name bytes : List ℕ) → Parsed → Fault → List ℕ
fault_lines name bytes p fault = fault_lines_at name bytes fault (fault_place fault) ++ misfit_lines p bytes fault

-- Replies ------------------------------------------------------------------------------------------------------

-- What `levels` replies to a text and levels.
abbrev pub RepliesFor : LevelsInput → Reply → Type 0
RepliesFor i reply = UnlessRejected (name_rejection i.program) (UnlessRejected (level_rejection i) (AcceptsForAll i)) reply

-- What is told of levels, for bytes that spell a text, where `levels` replies so, by how the file of the levels was read: its bytes were fetched, and
-- give levels or have a fault; or they weren't, and the report of `levels` is all.
abbrev pub TellsOver : (name bytes : List ℕ) → Parsed → (over : List ℕ) → End (List ℕ) → Reply → (text : List ℕ) → Type 0
TellsOver name bytes p over (took these) reply text =
    ((l : Levels) × GivesLevels these p l × RepliesFor (record { program = p; levels = l }) reply
    × (text ≡ level_lines name bytes (record { program = p; levels = l })))
    ⊎ ((fault : Fault) × IsShownLevelFault p these fault × (reply ≡ malformed over fault) × (text ≡ fault_lines over these p fault))
TellsOver name bytes p over (stops other) reply text = (reply ≡ other) × (text ≡ report_of reply)
TellsOver name bytes p over lacks reply text = ⊥
