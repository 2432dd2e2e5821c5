use Rattle.std.proofs.Common.{◌≡◌, Ok, Err, rules}
use Rattle.cov_ast.specs.View as view
use Rattle.cov_ast.proofs.ObligationLaws.{append_refused}
use Rattle.policy_class.specs.Resolved.{name_obligations}
use Rattle.call_run.proofs.RunLaws.{declarations_decided}
use Rattle.call_run.proofs.run.declared_program.Goals as goal

pub returns-in_err-program-clause-declared : goal.returns-in_err-program-clause-declared
returns-in_err-program-clause-declared c =
    let same : c.from_residual.result ≡ Err c.in_err-program.field-0.0 = search rules in
    rw same (append_refused (name_obligations (view.parsed c.args.parsed)) _ c.in_err-program.field-0.0 c.in_err-program.ensures.names)

pub returns-in_err-check_declared-clause-declared : goal.returns-in_err-check_declared-clause-declared
returns-in_err-check_declared-clause-declared c =
    let same : c.from_residual-in_err-check_declared.result ≡ Err c.in_err-check_declared.field-0.0 = search rules in
    rw same
    (declarations_decided (view.parsed c.args.parsed) (view.program c.in_ok-program.program) (Err c.in_err-check_declared.field-0.0) c.in_ok-program.ensures.program
    c.in_ok-program.ensures.names c.in_err-check_declared.ensures)

pub returns-clause-declared : goal.returns-clause-declared
returns-clause-declared c =
    declarations_decided (view.parsed c.args.parsed) (view.program c.in_ok-program.program) (Ok tt) c.in_ok-program.ensures.program
    c.in_ok-program.ensures.names c.in_ok-check_declared.ensures
