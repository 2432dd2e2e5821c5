use Rattle.std.proofs.Common.{◌≡◌, None, true, if◌then◌else◌, IfOk, option_map, sym, ap, subst}
use Rattle.cov_ast.specs.Obligations.{all_hold}
use Rattle.cov_ast.specs.View as view
use Rattle.cov_ast.proofs.ObligationLaws.{none_refused}
use Rattle.mode_compat.specs.Declared.{declaration_obligations}
use Rattle.typing_law.specs.ThreadEntailments.{entailment_among, thread_entailments, view_entail}
use Rattle.entail_refused.proofs.DeclaredLaws.{some_refused}
use Rattle.entail_refused.proofs.entailment.entailment_in.Goals as goal

pub entailment_at-requires-clause-declared : goal.entailment_at-requires-clause-declared
entailment_at-requires-clause-declared c = none_refused (declaration_obligations (view.program c.args.p.now)) c.in-Ok.ensures

pub returns-in-Ok : goal.returns-in-Ok
returns-in-Ok c =
    let p = view.program c.args.p.now in
    let found = entailment_among (thread_entailments p c.args.t) c.args.place c.args.number in
    let hold : all_hold (declaration_obligations p) ≡ true = none_refused (declaration_obligations p) c.in-Ok.ensures in
    subst (λ b. IfOk c.entailment_at.result (λ made. option_map view_entail made ≡ (if b then found else None))) (sym hold) c.entailment_at.ensures

pub returns-in-Err-Refused : goal.returns-in-Err-Refused
returns-in-Err-Refused c =
    let p = view.program c.args.p.now in
    let found = entailment_among (thread_entailments p c.args.t) c.args.place c.args.number in
    let fails = some_refused (declaration_obligations p) c.in-Err-Refused.field-0-0 (rw c.in-Err-Refused.field-0-is at c.in-Err-Refused.ensures) in
    ap (λ b. if b then found else None) (sym fails)
