use Rattle.std.proofs.Common.{◌≡◌, [], true, if◌then◌else◌, IfOk, sym, ◌∙◌, ap, subst}
use Rattle.cov_ast.specs.Obligations.{all_hold}
use Rattle.cov_ast.specs.View as view
use Rattle.cov_ast.proofs.ObligationLaws.{none_refused}
use Rattle.mode_compat.specs.Declared.{declaration_obligations}
use Rattle.entail_refused.specs.OtherRefusals.{others_onward}
use Rattle.entail_refused.proofs.DeclaredLaws.{some_refused}
use Rattle.entail_refused.proofs.others.others_declared.Goals as goal

pub others_onward-requires-clause-declared : goal.others_onward-requires-clause-declared
others_onward-requires-clause-declared c = none_refused (declaration_obligations (view.program c.args.p.now)) c.in-Ok.ensures

pub returns-in-Ok : goal.returns-in-Ok
returns-in-Ok c =
    let p = view.program c.args.p.now in
    let all = others_onward p c.args.t c.args.place c.args.number in
    let hold : all_hold (declaration_obligations p) ≡ true = none_refused (declaration_obligations p) c.in-Ok.ensures in
    subst (λ b. IfOk c.others_onward.result (λ made. made ≡ (if b then all else []))) (sym hold) c.others_onward.ensures

pub returns-in-Err-Refused : goal.returns-in-Err-Refused
returns-in-Err-Refused c =
    let p = view.program c.args.p.now in
    let all = others_onward p c.args.t c.args.place c.args.number in
    let fails = some_refused (declaration_obligations p) c.in-Err-Refused.field-0-0 (rw c.in-Err-Refused.field-0-is at c.in-Err-Refused.ensures) in
    c.new.ensures ∙ ap (λ b. if b then all else []) (sym fails)
