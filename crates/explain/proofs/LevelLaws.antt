-- Laws of what is told of a program and levels: behind the files that are read, and by what is found.
use Rattle.std.proofs.Common.{◌≡◌, ℕ, List, ◌++◌, length, Result, Option, Some, None, Ok, Err, IfOk, inl, inr, refl, sym, ap, ◌∙◌, subst, append_assoc}
use Rattle.std.specs.Prelude.{option_map}
use Rattle.call_inputs.specs.Programs.{IsShownFault}
use Rattle.call_inputs.specs.Readings.{End, HasRead, Reads, stops, took}
use Rattle.call_inputs.specs.Rejections.{UnlessRejected, rejected}
use Rattle.call_inputs.specs.Steps.{bytes}
use Rattle.call_inputs.proofs.ReadingLaws.{reads_onward}
use Rattle.call_judge.specs.Check.{name_rejection_by}
use Rattle.call_reports.specs.Replies.{Reply, malformed, ran, refused, status_of}
use Rattle.call_reports.specs.Reports.{report_of}
use Rattle.call_reports.specs.declared.answers.Fault.{Fault}
use Rattle.call_reports.specs.declared.answers.Status.{Status}
use Rattle.call_reports.specs.declared.answers.Status.TheVariants as s
use Rattle.call_verdicts.specs.Levels.{AcceptsForAll, LevelsInput, level_fault_shown, level_rejection, levels_words, rejection_for, totals_for}
use Rattle.cov_ast.specs.Obligations.{first_false}
use Rattle.cov_ast.specs.Syntax.{Parsed, Program}
use Rattle.cov_ast.specs.declared.refusal.Refusal.{Refusal}
use Rattle.cov_expr.specs.declared.limits.TheConstants.{MOST_BYTES}
use Rattle.cov_expr.specs.declared.list.NoMemory.{NoMemory}
use Rattle.cov_io.specs.Shelves.{Shelved}
use Rattle.cov_text.specs.declared.fault.ParseFault.TheVariants as faults
use Rattle.explain.specs.FileCalls.{FollowsOver, FollowsProgram, told}
use Rattle.explain.specs.Inside.Told.{AddsOver, IsLeft, IsToldBy, IsToldFor, outcome_of, status_by}
use Rattle.explain.specs.LevelTellings.{accepted_lines, fault_lines, level_lines, malformed_lines, observer_lines, text_lines, unnamed_lines}
use Rattle.level_text.specs.Lattice.{Levels}
use Rattle.level_text.specs.LevelReads.{GivesLevels, IsFirstFault}
use Rattle.level_text.specs.LevelReads as level_reads
use Rattle.level_text.specs.declared.fault.LevelFault.{LevelFault}
use Rattle.level_text.specs.declared.fault.LevelFault.TheVariants as kinds
use Rattle.levels.specs.Accepted.{IsAcceptedForAll, IsFirstRefused, first_refused}
use Rattle.levels.proofs.FirstRefused.{first_is_refused, none_refused_for}
use Rattle.policy_class.specs.Resolved.{name_obligations, resolved}

-- Files --------------------------------------------------------------------------------------------------------

-- what is said of a file that was read so
pub behind_file : (says : Shelved → End (List ℕ) → Type 0) (before after : Shelved) (name : List ℕ) (end : End (List ℕ))
    → HasRead before after (bytes name MOST_BYTES) end → says after end → Reads says before (bytes name MOST_BYTES)
behind_file says before after name end read h =
    reads_onward (λ shelf last. (shelf ≡ after) × (last ≡ end)) says (λ shelf last e. subst (λ x. says x last) (sym e.0) (subst (says after) (sym e.1) h)) before
    (bytes name MOST_BYTES) read

-- what a step comes to that adds a text and gives a status
same_told : (old new here : List ℕ) (status other : Status) → status ≡ other → new ≡ old ++ here → told (old ++ here) other ≡ told new status
same_told old new here status other is more = cc

module _ (name over old new : List ℕ) (shelf : Shelved) where
  -- a program that isn't read
  pub unread_follows : (reply : Reply) (r : Result Status NoMemory) → IfOk r (λ status. (status ≡ status_of reply) × (new ≡ old ++ report_of reply))
      → FollowsProgram (IsLeft shelf (outcome_of new r)) name over old shelf (stops reply)
  unread_follows reply (Ok status) (is, more) = inl (refl, same_told old new (report_of reply) status (status_of reply) is more)
  unread_follows reply (Err e) h = inr (refl, refl)

  -- bytes that spell none
  pub malformed_follows : (these : List ℕ) (fault : Fault) (r : Result Status NoMemory) → IsShownFault these fault
      → IfOk r (λ status. (status ≡ s.Malformed) × (new ≡ old ++ malformed_lines name these fault))
      → FollowsProgram (IsLeft shelf (outcome_of new r)) name over old shelf (took these)
  malformed_follows these fault (Ok status) found (is, more) =
      inr (inl (fault, found, (refl, same_told old new (malformed_lines name these fault) status s.Malformed is more)))
  malformed_follows these fault (Err e) found h = inr (inr (refl, refl))

  -- levels
  pub over_follows : (these : List ℕ) (p : Parsed) (end : End (List ℕ)) (r : Result Status NoMemory) → AddsOver name these p over end old new r
      → FollowsOver (IsLeft shelf (outcome_of new r)) name these p over old shelf end
  over_follows these p end (Ok status) (reply, here, tells, is, more) =
      inl (reply, here, tells, (refl, same_told old new here status (status_of reply) is more))
  over_follows these p end (Err e) h = inr (refl, refl)

module _ (name these : List ℕ) (p : Parsed) (over old new : List ℕ) where
  pub unread_over : (reply : Reply) (r : Result Status NoMemory) → IfOk r (λ status. (status ≡ status_of reply) × (new ≡ old ++ report_of reply))
      → AddsOver name these p over (stops reply) old new r
  unread_over reply (Ok status) (is, more) = (reply, report_of reply, (refl, refl), is, more)
  unread_over reply (Err e) h = tt

  pub given_over : (given : List ℕ) (l : Levels) (r : Result Status NoMemory) → GivesLevels given p l
      → IfOk r (IsToldFor name these (record { program = p; levels = l }) old new) → AddsOver name these p over (took given) old new r
  given_over given l (Ok status) gives (reply, replies, is, more) =
      (reply, level_lines name these (record { program = p; levels = l }), inl (l, gives, replies, refl), is, more)
  given_over given l (Err e) gives h = tt

  -- the first fault of a text, as what is read of it says
  first_of_text : (given : List ℕ) (fault : LevelFault) → level_reads.Reads given p (Err fault) → (found : Fault) → level_fault_shown fault ≡ Some found
      → IsFirstFault given p fault
  first_of_text given (kinds.Text (faults.BadByte at)) h found e = h
  first_of_text given (kinds.Text (faults.NumberTooLarge at)) h found e = h
  first_of_text given (kinds.Text (faults.NameTooLong at)) h found e = h
  first_of_text given (kinds.Text (faults.Unexpected at)) h found e = h
  first_of_text given (kinds.Text (faults.TooMany what at)) h found e = h
  first_of_text given (kinds.Text (faults.TooDeep at)) h found e = h
  first_of_text given (kinds.Text faults.NoMemory) h found e = cc
  first_of_text given (kinds.Many at) h found e = h
  first_of_text given (kinds.Same at) h found e = h
  first_of_text given (kinds.Unknown at) h found e = h
  first_of_text given (kinds.Plain at) h found e = h
  first_of_text given kinds.NoMemory h found e = cc

  pub fault_over : (given : List ℕ) (fault : LevelFault) (shows : Option Fault) (r : Result Status NoMemory) → level_reads.Reads given p (Err fault)
      → shows ≡ level_fault_shown fault
      → IfOk r (λ status. (found : Fault) × (shows ≡ Some found) × (status ≡ s.Malformed) × (new ≡ old ++ fault_lines over given p found))
      → AddsOver name these p over (took given) old new r
  fault_over given fault shows (Ok status) reads shown (found, some, is, more) =
      let e : level_fault_shown fault ≡ Some found = sym shown ∙ some in
      (malformed over found, fault_lines over given p found, inr (found, (fault, first_of_text given fault reads found e, e), refl, refl), is, more)
  fault_over given fault shows (Err e) reads shown h = tt

-- Parts --------------------------------------------------------------------------------------------------------

parts_of_three : (o h a b : List ℕ) → o ++ h ++ a ++ b ≡ o ++ (h ++ a ++ b)
parts_of_three o h a b = ap (λ x. x ++ b) (append_assoc o h a) ∙ append_assoc o (h ++ a) b

parts_of_four : (o h a b c : List ℕ) → o ++ h ++ a ++ b ++ c ≡ o ++ (h ++ a ++ b ++ c)
parts_of_four o h a b c = ap (λ x. x ++ c) (parts_of_three o h a b) ∙ append_assoc o (h ++ a ++ b) c

-- parts that are added one by one are added at once
pub parts_of_five : (o h a b c d : List ℕ) → o ++ h ++ a ++ b ++ c ++ d ≡ o ++ (h ++ a ++ b ++ c ++ d)
parts_of_five o h a b c d = ap (λ x. x ++ d) (parts_of_four o h a b c) ∙ append_assoc o (h ++ a ++ b ++ c) d

-- Texts --------------------------------------------------------------------------------------------------------

module _ (name these : List ℕ) (i : LevelsInput) (old new : List ℕ) (status : Status) where
  -- a name that isn't in order
  pub told_unnamed : (refusal : Refusal) → first_false (name_obligations i.program) ≡ Some refusal
      → (status ≡ s.Refused) × (new ≡ old ++ unnamed_lines name these i.program refusal) → IsToldFor name these i old new status
  told_unnamed refusal first (is, more) = (
    refused refusal None,
    subst (λ o. UnlessRejected (name_rejection_by o) (UnlessRejected (level_rejection i) (AcceptsForAll i)) (refused refusal None)) (sym first) refl,
    is,
    more ∙ ap (λ o. old ++ text_lines name these i o) (sym first),
  )

  -- what is replied, by the first observer for whom the program is refused
  replied : (first : Option (ℕ × Refusal)) → status ≡ status_by first
      → (reply : Reply) × UnlessRejected (option_map (rejection_for i) first) (AcceptsForAll i) reply × (status ≡ status_of reply)
  replied None is = (ran (levels_words (length i.levels.names) (totals_for i)), refl, is)
  replied (Some (observer, refusal)) is = (rejected (rejection_for i (observer, refusal)), refl, is)

  -- and names that are
  pub told_named : (program : Program) → program ≡ resolved i.program → first_false (name_obligations i.program) ≡ None
      → IsToldBy name these i.levels program (first_refused i.levels program) old new status → IsToldFor name these i old new status
  told_named program same none h =
      let at = subst (λ q. IsToldBy name these i.levels q (first_refused i.levels q) old new status) same h in
      let found = replied (first_refused i.levels (resolved i.program)) at.0 in (
        found.0,
        subst (λ o. UnlessRejected (name_rejection_by o) (UnlessRejected (level_rejection i) (AcceptsForAll i)) found.0) (sym none) found.1,
        found.2,
        at.1 ∙ ap (λ o. old ++ text_lines name these i o) (sym none),
      )

-- Programs -----------------------------------------------------------------------------------------------------

module _ (name these : List ℕ) (l : Levels) (p : Program) (old new : List ℕ) where
  pub told_accepted : IsAcceptedForAll l p → new ≡ old ++ accepted_lines name these l p → IsToldBy name these l p (first_refused l p) old new s.Done
  told_accepted all more = subst (λ o. IsToldBy name these l p o old new s.Done) (sym (none_refused_for l p all)) (refl, more)

  pub told_refused : (observer : ℕ) (refusal : Refusal) → IsFirstRefused l p observer refusal → new ≡ old ++ observer_lines name these l p observer refusal
      → IsToldBy name these l p (first_refused l p) old new s.Refused
  told_refused observer refusal first more =
      subst (λ o. IsToldBy name these l p o old new s.Refused) (sym (first_is_refused l p observer refusal first)) (refl, more)
