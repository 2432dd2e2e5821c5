use Rattle.std.proofs.Common.{◌++◌, ◌∙◌, Err}
use Rattle.cov_ast.specs.View as view
use Rattle.cov_ast.proofs.ObligationLaws.{append_decided, append_refused, append_held}
use Rattle.policy_class.specs.Policy.{policy_obligations}
use Rattle.lock_spec.specs.Locks.{lock_obligations}
use Rattle.mode_compat.specs.Compatible.{mode_obligations}
use Rattle.verify.proofs.check.check_declared.Goals as goal

pub returns-in-Err : goal.returns-in-Err
returns-in-Err c =
    let p = view.program c.args.p.now in
    append_refused (policy_obligations p ++ lock_obligations p) (mode_obligations p) c.in-Err.fault
    (append_refused (policy_obligations p) (lock_obligations p) c.in-Err.fault c.in-Err.ensures)

pub returns-in-Err-check_locks : goal.returns-in-Err-check_locks
returns-in-Err-check_locks c =
    let p = view.program c.args.p.now in
    let fault = c.in-Err-check_locks.fault in
    append_refused (policy_obligations p ++ lock_obligations p) (mode_obligations p) fault
    (append_decided (policy_obligations p) (lock_obligations p) (Err fault) c.in_default.ensures c.in-Err-check_locks.ensures)

pub returns : goal.returns
returns c =
    let p = view.program c.args.p.now in
    append_decided (policy_obligations p ++ lock_obligations p) (mode_obligations p) c.check_modes.result
    (append_held (policy_obligations p) (lock_obligations p) c.in_default.ensures ∙ c.in_default-check_locks.ensures) c.check_modes.ensures
