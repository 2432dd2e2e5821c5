-- Laws of what judging the bytes of a text finds.
use Rattle.std.proofs.Common.{◌≡◌, ℕ, List, inl, inr, refl, sym, ap, ◌∙◌, subst}
use Rattle.call_inputs.specs.Programs.{SpellsProgram}
use Rattle.call_inputs.specs.Rejections.{UnlessRejected}
use Rattle.call_judge.specs.Check.{accepted_with, rejection, totals, verdict}
use Rattle.call_judge.specs.Findings.{Finds, FindsIn, reply_to}
use Rattle.call_judge.specs.Texts.{ChecksBytes}
use Rattle.call_judge.specs.declared.judge.Judged.{Judged}
use Rattle.call_judge.specs.declared.judge.Judged.TheVariants as j
use Rattle.call_judge.proofs.CheckLaws.{names_rejected, none_rejects, program_rejected, rejected_judged}
use Rattle.call_reports.specs.Replies.{Reply}
use Rattle.cov_ast.specs.Syntax.{Parsed}
use Rattle.cov_ast.specs.View as view

-- what is found of a text is found of the bytes that spell it
pub found_of : (bytes : List ℕ) (p : Parsed) (judged : Judged) → SpellsProgram bytes p → FindsIn p judged → Finds bytes judged
found_of bytes p (j.Malformed fault) spells found = absurd found
found_of bytes p (j.Unnamed refusal) spells found = (p, spells, found)
found_of bytes p (j.Refused refusal program) spells found = (p, spells, found)
found_of bytes p (j.Accepted much program) spells found = (p, spells, found)

-- what is replied is what `check` replies to the bytes
pub reply_checks : (name bytes : List ℕ) (judged : Judged) → Finds bytes judged → ChecksBytes name bytes (reply_to name judged)
reply_checks name bytes (j.Malformed fault) found = inr (fault, found, refl)
reply_checks name bytes (j.Unnamed refusal) (p, spells, first) =
    inl (p, spells, rejected_judged p (reply_to name (j.Unnamed refusal)) (names_rejected p refusal first))
reply_checks name bytes (j.Refused refusal program) (p, spells, (named, first)) =
    let reply = reply_to name (j.Refused refusal program) in
    inl (p, spells, rejected_judged p reply (program_rejected p (view.program program.value) named.is named.held reply (refusal, first, refl)))
reply_checks name bytes (j.Accepted found program) (p, spells, (named, holds, is)) = inl (p, spells, judged)
  where
    same : reply_to name (j.Accepted found program) ≡ verdict p
    same = ap accepted_with is ∙ ap (λ q. accepted_with (totals q)) named.is

    judged : UnlessRejected (rejection p) (λ r. r ≡ verdict p) (reply_to name (j.Accepted found program))
    judged = subst (λ o. UnlessRejected o (λ r. r ≡ verdict p) (reply_to name (j.Accepted found program))) (sym (none_rejects p (view.program program.value) named.is named.held holds)) same

-- what is replied so, as an answer shows it
pub answer_checks : (name : List ℕ) (judged : Judged) (reply : Reply) → reply ≡ reply_to name judged → (bytes : List ℕ) → Finds bytes judged → ChecksBytes name bytes reply
answer_checks name judged reply is bytes found = subst (ChecksBytes name bytes) (sym is) (reply_checks name bytes judged found)
