use Rattle.std.proofs.Common.{◌≡◌, ◌∙◌, ap, sym, Some}
use Rattle.std.proofs.lemmas.Result.{IfOk-weaker}
use Rattle.std.specs.Option.{option_or}
use Rattle.cov_ast.specs.Obligations.{first_false}
use Rattle.cov_ast.specs.View as view
use Rattle.cov_ast.proofs.ObligationLaws.{append_held, first_false-append}
use Rattle.policy_class.specs.Resolved.{name_obligations, resolved}
use Rattle.typing_law.specs.Accepted.{program_obligations}
use Rattle.annotate.proofs.annotation.first_refusal.Goals as goal

pub returns-in-Ok : goal.returns-in-Ok
returns-in-Ok c =
    let p = view.parsed c.args.text in
    IfOk-weaker c.first_of_program.result _ _
    (λ first h.
    h
    ∙ ap (λ q. first_false (program_obligations q)) c.in-Ok.ensures.program
    ∙ sym (append_held (name_obligations p) (program_obligations (resolved p)) c.in-Ok.ensures.names))
    c.first_of_program.ensures

pub returns-in-Err-Refused : goal.returns-in-Err-Refused
returns-in-Err-Refused c =
    let p = view.parsed c.args.text in
    let some : first_false (name_obligations p) ≡ Some c.in-Err-Refused.refusal = rw c.in-Err-Refused.field-0-is at c.in-Err-Refused.ensures.names in
    rw c.in-Err-Refused.field-0-is
    (sym (first_false-append (name_obligations p) (program_obligations (resolved p)) ∙ ap (λ o. option_or o (first_false (program_obligations (resolved p)))) some))
