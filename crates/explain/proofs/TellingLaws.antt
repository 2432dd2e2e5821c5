-- Laws of what is told of bytes beside their explanation.
use Rattle.std.proofs.Common.{◌≡◌, ℕ, Bool, true, List, [], ◌++◌, append-nil, Result, OnOk, Option, Some, None, sym, ap, subst, ◌∙◌}
use Rattle.std.proofs.lemmas.Bool.{cond-true, cond-false}
use Rattle.std.proofs.lemmas.Result.{on_ok_weaker}
use Rattle.cov_expr.specs.declared.list.NoMemory.{NoMemory}
use Rattle.call_inputs.specs.Programs.{SpellsProgram}
use Rattle.call_judge.specs.Findings.{Finds, reply_to}
use Rattle.call_judge.specs.declared.judge.Judged.{Judged}
use Rattle.call_judge.specs.declared.judge.Judged.TheVariants as j
use Rattle.call_reports.specs.declared.answers.Totals.{Totals}
use Rattle.cov_ast.specs.Obligations.{all_hold, first_false}
use Rattle.cov_ast.specs.Plain.{plain}
use Rattle.cov_ast.specs.Syntax.{Parsed, Program}
use Rattle.cov_ast.specs.View as view
use Rattle.cov_ast.specs.declared.decl.Program as declared
use Rattle.cov_ast.specs.declared.refusal.Refusal.{Refusal}
use Rattle.cov_ast.proofs.ObligationLaws.{none_refused}
use Rattle.policy_class.specs.Resolved.{name_obligations, resolved}
use Rattle.entail_refused.proofs.DeclaredLaws.{some_refused}
use Rattle.explain.specs.HiddenText.{text_warnings}
use Rattle.explain.specs.Warnings.{warnings}
use Rattle.explain.specs.Tellings.{Adds, AddsCode, AddsPoints, asked_lines, compiled_lines, program_points, refusal_lines, unnamed_asked}
use Rattle.explain.specs.WarningSentences.{warning_lines}
use Rattle.typing_trace.specs.PointLines.{point_lines}

-- what a refusal is about where the names of a text are in order, and where they aren't
named_lines : (only : Bool) (name : List ℕ) (p : Parsed) (q : Program) (bytes : List ℕ) (refusal : Refusal) → first_false (name_obligations p) ≡ None → q ≡ resolved p
    → asked_lines only name p bytes refusal ≡ refusal_lines only name q bytes refusal
named_lines only name p q bytes refusal named is =
    cond-true (all_hold (name_obligations p)) (refusal_lines only name (resolved p) bytes refusal) (unnamed_asked p refusal) (none_refused (name_obligations p) named)
    ∙ ap (λ r. refusal_lines only name r bytes refusal) (sym is)

unnamed_lines : (only : Bool) (name : List ℕ) (p : Parsed) (bytes : List ℕ) (refusal first : Refusal) → first_false (name_obligations p) ≡ Some first
    → asked_lines only name p bytes refusal ≡ unnamed_asked p refusal
unnamed_lines only name p bytes refusal first is =
    cond-false (all_hold (name_obligations p)) (refusal_lines only name (resolved p) bytes refusal) (unnamed_asked p refusal) (some_refused (name_obligations p) first is)

-- What was added is what is told of bytes of which this was found, beside the explanation.
abbrev pub IsAdded : (only : Bool) (name bytes : List ℕ) → Judged → (old new : List ℕ) → Type 0
IsAdded only name bytes judged old new = (more : List ℕ) × Adds only name bytes (reply_to name judged) more × (new ≡ old ++ more)

module _ (only : Bool) (name bytes : List ℕ) (judged : Judged) (old new : List ℕ) (found : Finds bytes judged) where
  pub added_unnamed : {T : Type 0} (r : Result T NoMemory) (refusal : Refusal) → judged ≡ j.Unnamed refusal
      → ((p : Parsed) → SpellsProgram bytes p → OnOk r (new ≡ old ++ (unnamed_asked p refusal ++ warning_lines name bytes (text_warnings bytes))))
      → OnOk r (IsAdded only name bytes judged old new)
  added_unnamed r refusal e added =
      let h = subst (Finds bytes) e found in
      let lines = warning_lines name bytes (text_warnings bytes) in
      on_ok_weaker r
      (λ is. subst (λ x. IsAdded only name bytes x old new) (sym e)
      (unnamed_asked h.0 refusal ++ lines, (h.0, h.1, sym (ap (λ asked. asked ++ lines) (unnamed_lines only name h.0 bytes refusal refusal h.2))), is))
      (added h.0 h.1)

  pub added_refused : (refusal : Refusal) (program : _) → judged ≡ j.Refused refusal program → (lent : declared.Program) → lent ≡ program.value
      → new ≡ old ++ (refusal_lines only name (view.program lent) bytes refusal ++ warning_lines name bytes (text_warnings bytes)) → IsAdded only name bytes judged old new
  added_refused refusal program e lent same is =
      let h = subst (Finds bytes) e found in
      let lines = warning_lines name bytes (text_warnings bytes) in
      let named = h.2.0 in
      subst (λ x. IsAdded only name bytes x old new) (sym e) (
        refusal_lines only name (view.program program.value) bytes refusal ++ lines,
        (h.0, h.1, sym (ap (λ asked. asked ++ lines) (named_lines only name h.0 (view.program program.value) bytes refusal named.held named.is))),
        subst (λ q. new ≡ old ++ (refusal_lines only name (view.program q) bytes refusal ++ lines)) same is,
      )

  pub added_accepted : (counts : Totals) (program : _) → judged ≡ j.Accepted counts program → (lent : declared.Program) → lent ≡ program.value
      → new ≡ old ++ warning_lines name bytes (warnings (plain (view.program lent)) bytes) → IsAdded only name bytes judged old new
  added_accepted counts program e lent same is =
      let h = subst (Finds bytes) e found in
      let named = h.2.0 in
      subst (λ x. IsAdded only name bytes x old new) (sym e) (
        warning_lines name bytes (warnings (plain (view.program program.value)) bytes),
        (h.0, h.1, ap (λ q. warning_lines name bytes (warnings (plain q) bytes)) named.is),
        subst (λ q. new ≡ old ++ warning_lines name bytes (warnings (plain (view.program q)) bytes)) same is,
      )

-- Points ---------------------------------------------------------------------------------------------------------

-- what is told of points where the names of a text are in order and where they aren't
points_named : (p : Parsed) (q : Program) (bytes : List ℕ) (number : Option ℕ) → first_false (name_obligations p) ≡ None → q ≡ resolved p
    → point_lines q bytes number ≡ program_points p bytes number
points_named p q bytes number named is =
    ap (λ r. point_lines r bytes number) is ∙ sym (cond-true (all_hold (name_obligations p)) _ [] (none_refused (name_obligations p) named))

points_unnamed : (p : Parsed) (bytes : List ℕ) (number : Option ℕ) (first : Refusal) → first_false (name_obligations p) ≡ Some first → [] ≡ program_points p bytes number
points_unnamed p bytes number first is = sym (cond-false (all_hold (name_obligations p)) _ [] (some_refused (name_obligations p) first is))

-- What was added is what is told of points of bytes of which this was found.
abbrev pub ArePointsAdded : (name bytes : List ℕ) → (number : Option ℕ) → Judged → (old new : List ℕ) → Type 0
ArePointsAdded name bytes number judged old new = (more : List ℕ) × AddsPoints bytes number (reply_to name judged) more × (new ≡ old ++ more)

module _ (name bytes : List ℕ) (number : Option ℕ) (judged : Judged) (old new : List ℕ) (found : Finds bytes judged) where
  pub points_of_unnamed : (refusal : Refusal) → judged ≡ j.Unnamed refusal → new ≡ old → ArePointsAdded name bytes number judged old new
  points_of_unnamed refusal e is =
      let h = subst (Finds bytes) e found in
      subst (λ x. ArePointsAdded name bytes number x old new) (sym e)
      ([], (h.0, h.1, points_unnamed h.0 bytes number refusal h.2), is ∙ sym (append-nil old))

  pub points_of_refused : (refusal : Refusal) (program : _) → judged ≡ j.Refused refusal program → (lent : declared.Program) → lent ≡ program.value
      → new ≡ old ++ point_lines (view.program lent) bytes number → ArePointsAdded name bytes number judged old new
  points_of_refused refusal program e lent same is =
      let h = subst (Finds bytes) e found in
      let named = h.2.0 in
      subst (λ x. ArePointsAdded name bytes number x old new) (sym e) (
        point_lines (view.program program.value) bytes number,
        (h.0, h.1, points_named h.0 (view.program program.value) bytes number named.held named.is),
        subst (λ q. new ≡ old ++ point_lines (view.program q) bytes number) same is,
      )

  pub points_of_accepted : (counts : Totals) (program : _) → judged ≡ j.Accepted counts program → (lent : declared.Program) → lent ≡ program.value
      → new ≡ old ++ point_lines (view.program lent) bytes number → ArePointsAdded name bytes number judged old new
  points_of_accepted counts program e lent same is =
      let h = subst (Finds bytes) e found in
      let named = h.2.0 in
      subst (λ x. ArePointsAdded name bytes number x old new) (sym e) (
        point_lines (view.program program.value) bytes number,
        (h.0, h.1, points_named h.0 (view.program program.value) bytes number named.held named.is),
        subst (λ q. new ≡ old ++ point_lines (view.program q) bytes number) same is,
      )

-- Code -----------------------------------------------------------------------------------------------------------

-- What was added is what is told of bytes of which this was found, where the code is asked for.
abbrev pub IsCodeAdded : (name bytes : List ℕ) → Judged → (old new : List ℕ) → Type 0
IsCodeAdded name bytes judged old new = (more : List ℕ) × AddsCode name bytes (reply_to name judged) more × (new ≡ old ++ more)

module _ (name bytes : List ℕ) (judged : Judged) (old new : List ℕ) where
  pub code_of_malformed : (fault : _) → judged ≡ j.Malformed fault → IsAdded true name bytes judged old new → IsCodeAdded name bytes judged old new
  code_of_malformed fault e added = subst (λ x. IsCodeAdded name bytes x old new) (sym e) (subst (λ x. IsAdded true name bytes x old new) e added)

  pub code_of_unnamed : (refusal : Refusal) → judged ≡ j.Unnamed refusal → IsAdded true name bytes judged old new → IsCodeAdded name bytes judged old new
  code_of_unnamed refusal e added = subst (λ x. IsCodeAdded name bytes x old new) (sym e) (subst (λ x. IsAdded true name bytes x old new) e added)

  pub code_of_refused : (refusal : Refusal) (program : _) → judged ≡ j.Refused refusal program → IsAdded true name bytes judged old new
      → IsCodeAdded name bytes judged old new
  code_of_refused refusal program e added = subst (λ x. IsCodeAdded name bytes x old new) (sym e) (subst (λ x. IsAdded true name bytes x old new) e added)

  pub code_of_accepted : Finds bytes judged → (counts : Totals) (program : _) → judged ≡ j.Accepted counts program → (lent : declared.Program) → lent ≡ program.value
      → new ≡ old ++ compiled_lines (view.program lent) bytes → IsCodeAdded name bytes judged old new
  code_of_accepted found counts program e lent same is =
      let h = subst (Finds bytes) e found in
      let named = h.2.0 in
      subst (λ x. IsCodeAdded name bytes x old new) (sym e) (
        compiled_lines (view.program program.value) bytes,
        (h.0, h.1, ap (λ q. compiled_lines q bytes) named.is),
        subst (λ q. new ≡ old ++ compiled_lines (view.program q) bytes) same is,
      )
