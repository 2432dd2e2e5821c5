-- Laws of levels: a text of levels is read as one thing, and what is refused for an observer is the first that is.
use Rattle.std.proofs.Common.{◌≡◌, ℕ, ◌≤◌, List, [], length, get_or, Option, Some, None, Err, refl, sym, ap, subst, ◌∙◌}
use Rattle.std.specs.Prelude.{option_map}
use Rattle.std.proofs.lemmas.List.{length-map}
use Rattle.cov_expr.specs.declared.limits.TheConstants.{MOST_BYTES, MOST_VARIABLES}
use Rattle.cov_ast.specs.Syntax.{Parsed, Program}
use Rattle.cov_ast.specs.declared.refusal.Refusal.{Refusal}
use Rattle.cov_text.proofs.ReadyLaws.{text_ready}
use Rattle.cov_text.specs.declared.fault.ParseFault.TheVariants as faults
use Rattle.level_text.specs.Lattice.{AreLevels}
use Rattle.level_text.specs.LevelReads.{GivesLevels, IsFirstFault, Reads}
use Rattle.level_text.specs.declared.fault.LevelFault.{LevelFault}
use Rattle.level_text.specs.declared.fault.LevelFault.TheVariants as kinds
use Rattle.level_text.proofs.OneReading.{one_reading}
use Rattle.levels.specs.Accepted.{first_refused}
use Rattle.levels.specs.Order.{seen_by}
use Rattle.levels.specs.Projection.{marked_thread, marks_of, projected}
use Rattle.typing_law.specs.Verdicts.{counts}
use Rattle.typing_law.specs.declared.count.Count.{Count}
use Rattle.policy_class.specs.Resolved.{lock_id, resolved, resolved_variable, var_id}
use Rattle.call_inputs.specs.Programs.{SpellsProgram}
use Rattle.call_inputs.specs.Rejections.{UnlessRejected}
use Rattle.call_inputs.proofs.PlanLaws.{IsSoundReply, one_sound}
use Rattle.call_inputs.proofs.ReadingLaws.{IsReading}
use Rattle.call_inputs.proofs.TextLaws.{some_one}
use Rattle.call_judge.proofs.CheckLaws.{same_name}
use Rattle.call_judge.specs.Check.{name_in, name_rejection}
use Rattle.call_judge.specs.Inside.{IsUnnamed}
use Rattle.call_reports.specs.AnswerViews.{Gets, Stops}
use Rattle.call_reports.specs.Replies.{Reply, malformed, ran, refused_for}
use Rattle.call_reports.specs.declared.answers.Fault.{Fault}
use Rattle.call_reports.specs.declared.answers.Status.TheVariants as s
use Rattle.call_reports.specs.declared.answers.Stop.{Stop}
use Rattle.call_reports.specs.declared.answers.Totals.{Totals}
use Rattle.call_reports.proofs.AnswerLaws.{stops_onward}
use Rattle.call_verdicts.proofs.LevelWords.{given_ready}
use Rattle.call_verdicts.specs.Inside.{IsRefusedFor, JudgesForAll}
use Rattle.call_verdicts.specs.Levels.{AcceptsForAll, IsShownLevelFault, LevelsInput, level_fault_shown, level_rejection, levels_words, rejection_for, totals_for}

-- Texts ----------------------------------------------------------------------------------------------------------------------

pub levels_reading_is_one : (p : Parsed) → IsReading (λ bytes l. GivesLevels bytes p l) (IsShownLevelFault p)
levels_reading_is_one p = record {
  one_value = λ bytes l m h k. (one_reading bytes p).one_value l m h k;
  one_fault = λ bytes f g (found, h, is) (found', h', is').
      some_one (level_fault_shown found') f g (sym (ap level_fault_shown ((one_reading bytes p).one_fault found found' h h')) ∙ is) is';
  not_both = λ bytes l f h (found, is, e). (one_reading bytes p).not_both l found h is;
}

-- the first fault of a text, as what is read of it says
first_of_text : (bytes : List ℕ) (p : Parsed) (fault : LevelFault) → Reads bytes p (Err fault) → (found : Fault) → level_fault_shown fault ≡ Some found
    → IsFirstFault bytes p fault
first_of_text bytes p (kinds.Text (faults.BadByte at)) h found e = h
first_of_text bytes p (kinds.Text (faults.NumberTooLarge at)) h found e = h
first_of_text bytes p (kinds.Text (faults.NameTooLong at)) h found e = h
first_of_text bytes p (kinds.Text (faults.Unexpected at)) h found e = h
first_of_text bytes p (kinds.Text (faults.TooMany what at)) h found e = h
first_of_text bytes p (kinds.Text (faults.TooDeep at)) h found e = h
first_of_text bytes p (kinds.Text faults.NoMemory) h found e = cc
first_of_text bytes p (kinds.Many at) h found e = h
first_of_text bytes p (kinds.Same at) h found e = h
first_of_text bytes p (kinds.Unknown at) h found e = h
first_of_text bytes p (kinds.Plain at) h found e = h
first_of_text bytes p kinds.NoMemory h found e = cc

-- a text that gives no levels is told with its first fault
pub levels_unread : (name bytes : List ℕ) (p : Parsed) (fault : LevelFault) (o : Option Fault) (why : Stop) → Reads bytes p (Err fault)
    → o ≡ level_fault_shown fault → Stops (λ reply. (found : Fault) × (o ≡ Some found) × (reply ≡ malformed name found)) why
    → Stops (λ reply. (found : Fault) × IsShownLevelFault p bytes found × (reply ≡ malformed name found)) why
levels_unread name bytes p fault o why h shown told =
    stops_onward (λ reply. (found : Fault) × (o ≡ Some found) × (reply ≡ malformed name found))
    (λ reply. (found : Fault) × IsShownLevelFault p bytes found × (reply ≡ malformed name found)) why
    (λ reply t. (t.0, (fault, first_of_text bytes p fault h t.0 (sym shown ∙ t.1), sym shown ∙ t.1), t.2)) told

-- a program has as many variables as its text
pub as_many_vars : (p : Parsed) (program : Program) → program ≡ resolved p → length program.vars ≡ length p.vars
as_many_vars p program same = ap (λ q. length q.vars) same ∙ length-map p.vars (resolved_variable (var_id p) (lock_id p))

-- what bytes give for a program that bytes spell is levels over its variables
pub given_fit : (bytes these : List ℕ) → length bytes ≤ MOST_BYTES → length these ≤ MOST_BYTES → (i : LevelsInput) → SpellsProgram bytes i.program
    → GivesLevels these i.program i.levels → AreLevels (length (resolved i.program).vars) i.levels
given_fit bytes these short brief i (tree, is, same) given =
    let few = subst (λ q. length q.vars ≤ MOST_VARIABLES) (sym same) (text_ready bytes short tree is).limits.variables in
    subst (λ n. AreLevels n i.levels) (sym (as_many_vars i.program (resolved i.program) refl)) (given_ready these brief i.program few i.levels given)

-- Replies --------------------------------------------------------------------------------------------------------------------

-- what no level rejects is refused for none
pub none_rejected : (i : LevelsInput) → level_rejection i ≡ None → first_refused i.levels (resolved i.program) ≡ None
none_rejected i = by (first_refused i.levels (resolved i.program))
  where
    by : (o : Option (ℕ × Refusal)) → option_map (rejection_for i) o ≡ None → o ≡ None
    by None h = refl
    by (Some r) h = cc

pub levels_sound : (i : LevelsInput) → IsSoundReply (λ status. status ≡ s.Done) (AcceptsForAll i)
levels_sound i = one_sound (ran (levels_words (length i.levels.names) (totals_for i))) refl

-- the line of what is accepted for every level, by what is counted for the first
pub line_told : (i : LevelsInput) (program : Program) → program ≡ resolved i.program → (observers threads : ℕ) (count : Count) (line : List ℕ)
    → observers ≡ length i.levels.names → threads ≡ length program.threads → count ≡ counts (projected i.levels 0 program)
    → line ≡ levels_words observers (record { threads = threads; statements = count.statements; entailments = count.entailments })
    → ran line ≡ ran (levels_words (length i.levels.names) (totals_for i))
line_told i program same observers threads count line as_many as_long counted is =
    let all = resolved i.program in
    let shown_threads : threads ≡ length (projected i.levels 0 all).threads =
    as_long ∙ ap (λ q. length q.threads) same ∙ sym (length-map all.threads (marked_thread (marks_of (seen_by i.levels 0) i.levels all.vars))) in
    let shown_counts : count ≡ counts (projected i.levels 0 all) = counted ∙ ap (λ q. counts (projected i.levels 0 q)) same in
    ap ran (is ∙ (λ j. let t : Totals = record { threads = shown_threads j; statements = (shown_counts j).statements; entailments = (shown_counts j).entailments } in
    levels_words (as_many j) t))

module _ (i : LevelsInput) where
  -- names that aren't in order
  pub unnamed_for_all : (why : Stop) → Stops (IsUnnamed i.program) why → Gets (JudgesForAll i) (Err why)
  unnamed_for_all why h =
      stops_onward (IsUnnamed i.program) (JudgesForAll i) why
      (λ reply (q, some, is). subst (λ o. UnlessRejected o (UnlessRejected (level_rejection i) (AcceptsForAll i)) reply) (sym some) is) h

  module _ (named : name_rejection i.program ≡ None) (program : Program) (same : program ≡ resolved i.program) where
    -- a level for which the program isn't accepted
    refused_judged : (reply : Reply) → IsRefusedFor i.levels program reply → JudgesForAll i reply
    refused_judged reply (r, first, is) =
        subst (λ o. UnlessRejected o (UnlessRejected (level_rejection i) (AcceptsForAll i)) reply) (sym named)
        (subst (λ o. UnlessRejected o (AcceptsForAll i) reply)
        (sym (ap (option_map (rejection_for i)) (ap (first_refused i.levels) (sym same) ∙ first)))
        (is ∙ ap (refused_for (get_or i.levels.names r.0 []) r.1) (ap (λ q. name_in q.threads r.1.thread) same ∙ same_name i.program r.1.thread)))

    pub refused_for_all : (why : Stop) → Stops (IsRefusedFor i.levels program) why → Gets (JudgesForAll i) (Err why)
    refused_for_all why h = stops_onward (IsRefusedFor i.levels program) (JudgesForAll i) why refused_judged h

    -- and one that is accepted for all
    pub accepted_for_each : first_refused i.levels program ≡ None → (reply : Reply) → AcceptsForAll i reply → JudgesForAll i reply
    accepted_for_each none reply is =
        subst (λ o. UnlessRejected o (UnlessRejected (level_rejection i) (AcceptsForAll i)) reply) (sym named)
        (subst (λ o. UnlessRejected o (AcceptsForAll i) reply) (sym (ap (option_map (rejection_for i)) (ap (first_refused i.levels) (sym same) ∙ none))) is)
