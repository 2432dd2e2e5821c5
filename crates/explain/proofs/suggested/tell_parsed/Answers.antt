use Rattle.std.proofs.Common.{◌≡◌, ◌++◌, ◌∙◌, Err, IsTrue, Some, ap, subst, sym}
use Rattle.std.proofs.lemmas.Result.{IfOk-weaker}
use Rattle.cov_ast.proofs.ObligationLaws.{none_refused}
use Rattle.cov_ast.specs.Obligations.{Decides, all_hold, first_false}
use Rattle.cov_ast.specs.View as view
use Rattle.policy_class.specs.Resolved.{name_obligations}
use Rattle.explain.specs.SuggestedTexts.{declared_status, named_lines, status_by}
use Rattle.explain.proofs.suggested.tell_parsed.Goals as goal

pub tell_named-requires-clause-names : goal.tell_named-requires-clause-names
tell_named-requires-clause-names c =
    subst (λ q. IsTrue (all_hold (name_obligations q))) c.in_ok-again.ensures (none_refused (name_obligations (view.parsed c.in_ok-again.again)) c.in-Ok.ensures.names)

pub returns-in-Err-Refused : goal.returns-in-Err-Refused
returns-in-Err-Refused c =
    let p = view.parsed c.args.parsed in
    let refusal = c.in-Err-Refused.refusal in
    let again = view.parsed c.in_ok-again.again in
    let fails = subst (λ fault. Decides (name_obligations again) (Err fault)) c.in-Err-Refused.field-0-is c.in-Err-Refused.ensures.names in
    let first : first_false (name_obligations p) ≡ Some refusal = subst (λ q. first_false (name_obligations q) ≡ Some refusal) c.in_ok-again.ensures fails in
    IfOk-weaker c.tell_unnamed.result _ _
    (λ status h. (
      h.0 ∙ ap (λ o. status_by o (declared_status p)) (sym first),
      h.1 ∙ ap (λ o. c.args.text.now ++ named_lines c.args.name.now c.args.bytes.now p o) (sym first),
    )) (c.tell_unnamed.ensures p c.requires.spelled)
