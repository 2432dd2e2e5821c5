use Rattle.std.proofs.Common.{◌≡◌, Err, map, subst}
use Rattle.call_judge.specs.Check.{name_in}
use Rattle.call_verdicts.proofs.AnnotationsLaws.{undeclared_told}
use Rattle.call_verdicts.proofs.annotations.declared.Goals as goal
use Rattle.cov_ast.proofs.ObligationLaws.{none_refused}
use Rattle.cov_ast.specs.Obligations.{Decides}
use Rattle.cov_ast.specs.View as view
use Rattle.mode_compat.specs.Declared.{declaration_obligations}

pub returns-in-Ok-clause-held : goal.returns-in-Ok-clause-held
returns-in-Ok-clause-held c = none_refused (declaration_obligations (view.program c.args.program.now)) c.in-Ok.ensures

pub returns-in-Err-Refused-clause-rejection : goal.returns-in-Err-Refused-clause-rejection
returns-in-Err-Refused-clause-rejection c =
    let q = view.program c.args.program.now in
    let refusal = c.in-Err-Refused.refusal in
    let thread = c.thread_name-thread.result in
    undeclared_told (view.parsed c.args.parsed.now) q c.requires.resolved refusal thread
    (subst (λ fault. Decides (declaration_obligations q) (Err fault)) c.in-Err-Refused.field-0-is c.in-Err-Refused.ensures)
    (subst (λ threads. thread ≡ name_in (map view.thread threads) refusal.thread) c.as_slice.ensures c.thread_name-thread.ensures)
