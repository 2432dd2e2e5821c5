use Rattle.std.proofs.Common.{◌≡◌, None, Some, Err, refl, sym, ap, subst}
use Rattle.cov_ast.specs.Obligations.{Decides, first_false}
use Rattle.cov_ast.specs.View as view
use Rattle.policy_class.specs.Resolved.{name_obligations}
use Rattle.call_inputs.specs.Rejections.{by_rule}
use Rattle.call_judge.specs.Check.{name_rejection_by}
use Rattle.call_judge.specs.Inside.{IsRejected, IsUnnamed}
use Rattle.call_judge.proofs.CheckLaws.{names_rejected}
use Rattle.call_reports.specs.Replies.{refused}
use Rattle.call_judge.proofs.check.named.Goals as goal

pub returns-in-Ok-clause-unnamed : goal.returns-in-Ok-clause-unnamed
returns-in-Ok-clause-unnamed c = ap name_rejection_by c.in-Ok.ensures.names

pub returns-in-Err-Refused-clause-named : goal.returns-in-Err-Refused-clause-named
returns-in-Err-Refused-clause-named c =
    let p = view.parsed c.args.parsed in
    subst (λ refusal. IsRejected p (refused refusal None)) (sym c.in-Err-Refused.refusal-is)
    (names_rejected p c.in-Err-Refused.refusal
    (subst (λ fault. Decides (name_obligations p) (Err fault)) c.in-Err-Refused.field-0-is c.in-Err-Refused.ensures.names))

pub returns-in-Err-Refused-clause-unnamed : goal.returns-in-Err-Refused-clause-unnamed
returns-in-Err-Refused-clause-unnamed c =
    let p = view.parsed c.args.parsed in
    let refusal = c.in-Err-Refused.refusal in
    let first : first_false (name_obligations p) ≡ Some refusal =
    subst (λ fault. Decides (name_obligations p) (Err fault)) c.in-Err-Refused.field-0-is c.in-Err-Refused.ensures.names in
    subst (λ r. IsUnnamed p (refused r None)) (sym c.in-Err-Refused.refusal-is) (by_rule refusal None, ap name_rejection_by first, refl)
