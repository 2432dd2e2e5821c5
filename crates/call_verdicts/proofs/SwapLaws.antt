-- Laws of replaced threads: there is one reply, and what is said of the texts holds of the program and its threads.
use Rattle.std.proofs.Common.{◌≡◌, ℕ, ◌≤◌, List, Bool, true, false, cond, length, refl, sym, ap, subst, ◌∙◌, arith, Option, Some, None, Result, Err, All, ◌==◌}
use Rattle.std.specs.Prelude.{option_map}
use Rattle.std.specs.Str.{bytes_eq}
use Rattle.std.proofs.lemmas.Bool.{eqb-true}
use Rattle.std.proofs.lemmas.List.{length-map}
use Rattle.cov_expr.specs.Words.{IsWord}
use Rattle.cov_expr.specs.declared.expr.TheConstants.{HOLE}
use Rattle.cov_expr.specs.declared.limits.TheConstants.{MOST_BYTES}
use Rattle.cov_ast.specs.Syntax.{Parsed, Program}
use Rattle.cov_ast.specs.WellFormed.{IsWellFormed}
use Rattle.cov_text.proofs.ReadyLaws.{text_ready}
use Rattle.cov_text.proofs.WordLaws.{names_few}
use Rattle.cov_text.specs.Text as text
use Rattle.policy_class.specs.Resolved.{resolved_var, text_of}
use Rattle.thread_swap.specs.Binding.{IsFault, bound, first_fault, lock_of, var_names, var_of}
use Rattle.thread_swap.specs.Judges.{Judging}
use Rattle.thread_swap.specs.Replacements.{IsReplacement}
use Rattle.thread_swap.specs.declared.swap_fault.SwapFault.{SwapFault}
use Rattle.thread_swap.specs.declared.swap_fault.SwapFault.TheVariants.{Version, Declares, NoThread, Unknown, NoMemory}
use Rattle.thread_swap.proofs.FitLaws.{bound_replace, never_lacks}
use Rattle.call_inputs.specs.Programs.{SpellsProgram}
use Rattle.call_inputs.specs.Plans.{CarriesOutAsking, CountsAt, GetsAt, LacksMemory, Rises, asks}
use Rattle.call_inputs.specs.Readings.{End, gives, took, tries}
use Rattle.call_inputs.specs.Rejections.{misfit}
use Rattle.call_inputs.proofs.PlanLaws.{IsSoundReply, one_sound, stopped_unasked, tried_not, tried_on}
use Rattle.call_judge.specs.Inside.{IsUnnamed}
use Rattle.cov_io.specs.Shelves.{Shelved}
use Rattle.call_judge.proofs.FormedLaws.{position_most}
use Rattle.text_law.proofs.NumberWords.{text_words}
use Rattle.text_law.proofs.WordTrees.{program_words}
use Rattle.call_reports.specs.AnswerViews.{Stops}
use Rattle.call_reports.specs.Replies.{malformed, ran}
use Rattle.call_reports.specs.declared.answers.Answer.{Answer}
use Rattle.call_reports.specs.declared.answers.Fault.{Fault}
use Rattle.call_reports.specs.declared.answers.Status.TheVariants as s
use Rattle.call_reports.specs.declared.answers.Stop.{Stop}
use Rattle.call_reports.proofs.AnswerLaws.{stops_onward}
use Rattle.call_verdicts.specs.Inside.{IsMisfit}
use Rattle.call_verdicts.specs.Swap.{SwapInput, Swaps, due_by, fitting, lines_by, misfit_by, misfit_rejection, misfit_shown, swap_report}
use Rattle.policy_class.specs.Resolved.{name_obligations, resolved}
use Rattle.call_judge.specs.Check.{name_rejection, name_rejection_by}
use Rattle.call_judge.specs.Meaning.{AreNamesInOrder}
use Rattle.cov_ast.specs.Obligations.{first_false}
use Rattle.cov_ast.specs.declared.refusal.Refusal.{Refusal}
use Rattle.cov_ast.proofs.ObligationLaws.{none_refused}

pub swap_sound : (j : Judging) (i : SwapInput) → IsSoundReply (λ status. status ≡ s.Done) (Swaps j i)
swap_sound j i = one_sound (ran (swap_report (resolved i.program) (lines_by j i))) refl

-- names that nothing rejects are in order
pub names_ordered : (p : Parsed) → name_rejection p ≡ None → AreNamesInOrder p
names_ordered p h = none_refused (name_obligations p) (by (first_false (name_obligations p)) h)
  where
    by : (o : Option Refusal) → name_rejection_by o ≡ None → o ≡ None
    by None k = refl
    by (Some refusal) k = cc

-- Faults ---------------------------------------------------------------------------------------------------------------------

-- what is shown of a fault rejects the text
shown_rejects : (name : List ℕ) (first : Option SwapFault) (fault : SwapFault) (found : Fault) → IsFault first fault → misfit_shown fault ≡ Some found
    → misfit_by name first ≡ Some (misfit name found)
shown_rejects name first Version found is shown = ap (misfit_by name) is ∙ ap (option_map (misfit name)) shown
shown_rejects name first (Declares at) found is shown = ap (misfit_by name) is ∙ ap (option_map (misfit name)) shown
shown_rejects name first (NoThread at) found is shown = ap (misfit_by name) is ∙ ap (option_map (misfit name)) shown
shown_rejects name first (Unknown at) found is shown = ap (misfit_by name) is ∙ ap (option_map (misfit name)) shown
shown_rejects name first NoMemory found is shown = cc

-- so a text that isn't bound is refused with its first fault
pub misfit_told : (name : List ℕ) (p : Program) (e : Parsed) (fault : SwapFault) (o : Option Fault) (why : Stop) → IsFault (first_fault p e) fault
    → o ≡ misfit_shown fault → Stops (λ reply. (found : Fault) × (o ≡ Some found) × (reply ≡ malformed name found)) why → Stops (IsMisfit name p e) why
misfit_told name p e fault o why is shown told =
    stops_onward (λ reply. (found : Fault) × (o ≡ Some found) × (reply ≡ malformed name found)) (IsMisfit name p e) why
    (λ reply h. (misfit name h.0, shown_rejects name (first_fault p e) fault h.0 is (sym shown ∙ h.1), h.2)) told

-- a text without a misfit has no fault
pub no_fault : (name : List ℕ) (p : Program) (e : Parsed) → misfit_rejection name p e ≡ None → first_fault p e ≡ None
no_fault name p e none = by (first_fault p e) (never_lacks p e) none
  where
    by : (o : Option SwapFault) → (o ≡ Some NoMemory → ⊥) → misfit_by name o ≡ None → o ≡ None
    by None lacks h = refl
    by (Some Version) lacks h = cc
    by (Some (Declares at)) lacks h = cc
    by (Some (NoThread at)) lacks h = cc
    by (Some (Unknown at)) lacks h = cc
    by (Some NoMemory) lacks h = absurd (lacks refl)

-- Texts ----------------------------------------------------------------------------------------------------------------------

module _ (p : Program) (fine : IsWellFormed p) where
  -- the id of a variable, or what stands in its place, is a word
  id_word : (e : Parsed) (x : ℕ) → IsWord (resolved_var (var_of p e) (lock_of p e) x)
  id_word e x = go (x == HOLE) refl
    where
      go : (b : Bool) → (x == HOLE) ≡ b → IsWord (cond b x (var_of p e x))
      go true is = omega (arith, eqb-true x HOLE is)
      go false is =
          omega (arith, fine.limits.variables, position_most (bytes_eq (text_of e x)) (var_names p), length-map p.vars (λ v. v.name))

  -- Threads of a text that has no fault may replace those of the program.
  pub threads_replace : (bytes : List ℕ) → length bytes ≤ MOST_BYTES → (e : Parsed) → SpellsProgram bytes e → first_fault p e ≡ None
      → All (IsReplacement p) (bound p e)
  threads_replace bytes short e (tree, is, same) none =
      let made : Parsed = text.program_of bytes tree in
      subst (λ q. All (IsReplacement p) (bound p q)) (sym same)
      (bound_replace p made fine (text_ready bytes short tree is) (names_few bytes is.tokens.lexes short)
      (program_words (var_of p made) (lock_of p made) (id_word made) (text.names_of bytes) tree (text.words_of bytes) (text_words bytes is.tokens.lexes) is.spelled).bodies
      (subst (λ q. first_fault p q ≡ None) same none))

-- Answers --------------------------------------------------------------------------------------------------------------------

-- what may be replied, and how the judge's count rises, at the end of the reading of a program and its threads
abbrev pub Answers : Judging → (told : ℕ) → (shelf : Shelved) → Result Answer Stop → Shelved → End SwapInput → Type 0
Answers j told after r shelf end = (shelf ≡ after) × GetsAt (Swaps j) end r × CountsAt (due_by j) j.judged told (LacksMemory r) end

module _ (j : Judging) (replacing : List ℕ) (i : SwapInput) (shelf : Shelved) where
  -- a program whose names aren't in order
  pub unnamed_answered : (why : Stop) → Stops (IsUnnamed i.program) why
      → CarriesOutAsking shelf shelf j.judged j.judged (asks (fitting replacing i) (Swaps j) (due_by j)) (Err why)
  unnamed_answered why h =
      let end = stopped_unasked (Swaps j) (due_by j) j.judged j.judged why refl in
      tried_not (Answers j j.judged shelf (Err why)) shelf (tries (misfit_rejection replacing (resolved i.program) i.replacing) (gives i)) (name_rejection i.program)
      why h (refl, end.0, end.1)

  module _ (named : name_rejection i.program ≡ None) where
    -- threads that don't fit
    pub misfit_answered : (why : Stop) → Stops (IsMisfit replacing (resolved i.program) i.replacing) why
        → CarriesOutAsking shelf shelf j.judged j.judged (asks (fitting replacing i) (Swaps j) (due_by j)) (Err why)
    misfit_answered why h =
        let end = stopped_unasked (Swaps j) (due_by j) j.judged j.judged why refl in
        tried_on (Answers j j.judged shelf (Err why)) shelf (tries (misfit_rejection replacing (resolved i.program) i.replacing) (gives i)) (name_rejection i.program) named
        (tried_not (Answers j j.judged shelf (Err why)) shelf (gives i) (misfit_rejection replacing (resolved i.program) i.replacing) why h (refl, end.0, end.1))

    -- and such as fit
    pub lines_answered : misfit_rejection replacing (resolved i.program) i.replacing ≡ None → (told : ℕ) (r : Result Answer Stop) → GetsAt (Swaps j) (took i) r
        → Rises j.judged told (due_by j i) (LacksMemory r)
        → CarriesOutAsking shelf shelf j.judged told (asks (fitting replacing i) (Swaps j) (due_by j)) r
    lines_answered fits told r gets rises =
        tried_on (Answers j told shelf r) shelf (tries (misfit_rejection replacing (resolved i.program) i.replacing) (gives i)) (name_rejection i.program) named
        (tried_on (Answers j told shelf r) shelf (gives i) (misfit_rejection replacing (resolved i.program) i.replacing) fits (refl, gets, rises))
